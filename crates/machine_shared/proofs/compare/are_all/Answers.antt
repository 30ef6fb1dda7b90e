use Rattle.std.proofs.Common.{◌≡◌, ◌∙◌, sym, arith}
use Rattle.machine_shared.proofs.Once.{once_more}
use Rattle.machine_shared.proofs.compare.are_all.Goals as goal

pub loop-k-preserved : goal.loop-k-preserved
loop-k-preserved g c = let one : c.count_of.result ≡ 1 = omega arith in once_more c.args.before c.loop-k.k c.args.handles.now c.loop-k.invariant (sym c.count_of.ensures ∙ one)

pub returns-clause-once : goal.returns-clause-once
returns-clause-once g c h n given = c.loop-k.invariant n (given.0, omega arith)
