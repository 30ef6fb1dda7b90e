use Rattle.std.proofs.Common.{ap, refl}
use Rattle.line_sessions.specs.Serve.{place}
use Rattle.line_sessions.specs.declared.lines.Buffers.{Buffers}
use Rattle.line_sessions.proofs.Living.{lives_told}
use Rattle.line_sessions.proofs.serve.lines.Goals as goal

pub returns-clause-lives : goal.returns-clause-lives
returns-clause-lives g c =
    let here = place c.args.buffers.now (g.R.Read.remaining c.args.input.now) (g.W.Write.contents c.args.output.now) in
    let mid = place c.run_lines.new.buffers (g.R.Read.remaining c.run_lines.new.input) (g.W.Write.contents c.run_lines.new.output) in
    let there = place c.tell_end.new.buffers (g.R.Read.remaining c.run_lines.new.input) (g.W.Write.contents c.tell_end.new.output) in
    lives_told g.P.Pages.store g.P.Pages.flush_number g.M.MergeOperator.meant c.args.session.now c.run_lines.new.session _ here mid there c.in_ok-end.ensures.runs (ap (λ (b : Buffers). b.number) c.tell_end.ensures.same) refl c.in_ok-tell_end.ensures.prints
