use Rattle.line_words.proofs.Parts.{ends_line}
use Rattle.line_words.proofs.input.copy_line.Goals as goal

pub returns-then-branch-clause-bytes : goal.returns-then-branch-clause-bytes
returns-then-branch-clause-bytes g c =
    (ends_line (g.R.Read.remaining c.args.input.now) (g.R.Read.remaining c.loop.input) (g.R.Read.remaining c.copy_part.new.input) c.loop.line.items c.copy_part.new.line.items c.loop.invariant.taken c.loop.invariant.all (rw c.if-branch.true at c.in_ok-copy_part.ensures)).0

pub returns-then-branch-clause-rest : goal.returns-then-branch-clause-rest
returns-then-branch-clause-rest g c =
    (ends_line (g.R.Read.remaining c.args.input.now) (g.R.Read.remaining c.loop.input) (g.R.Read.remaining c.copy_part.new.input) c.loop.line.items c.copy_part.new.line.items c.loop.invariant.taken c.loop.invariant.all (rw c.if-branch.true at c.in_ok-copy_part.ensures)).1
