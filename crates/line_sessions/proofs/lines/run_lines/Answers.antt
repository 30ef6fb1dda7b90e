use Rattle.std.proofs.Common.{None, Some}
use Rattle.line_sessions.specs.Serve.{Place, place}
use Rattle.line_sessions.specs.declared.lines.End.TheVariants as end
use Rattle.line_sessions.proofs.Living.{runs_end, runs_bad, runs_crash, runs_command}
use Rattle.line_sessions.proofs.Printing.{prints_kept}
use Rattle.line_sessions.proofs.Reading.{bad_kept, bad_told}
use Rattle.line_sessions.proofs.lines.run_lines.Goals as goal

pub returns-in-NoLine-clause-bad : goal.returns-in-NoLine-clause-bad
returns-in-NoLine-clause-bad g c = bad_told _ _ None c.loop.invariant.bad (rw c.in-NoLine.is at c.in_ok-next_line.ensures.bad)

pub returns-in-BadLine-clause-bad : goal.returns-in-BadLine-clause-bad
returns-in-BadLine-clause-bad g c = bad_told _ _ (Some _) c.loop.invariant.bad (rw c.in-BadLine.is at c.in_ok-next_line.ensures.bad)

pub returns-in-Crash-clause-bad : goal.returns-in-Crash-clause-bad
returns-in-Crash-clause-bad g c = bad_kept _ _ _ c.loop.invariant.bad (rw c.in-Crash.is at c.in_ok-next_line.ensures.bad)

pub returns-in-NoLine-clause-runs : goal.returns-in-NoLine-clause-runs
returns-in-NoLine-clause-runs g c =
    let read = c.in_ok-next_line.ensures in
    let here = place c.loop.buffers (g.R.Read.remaining c.loop.input) (g.W.Write.contents c.loop.output) in
    let there = place c.next_line.new.buffers (g.R.Read.remaining c.next_line.new.input) (g.W.Write.contents c.next_line.new.output) in
    c.loop.invariant.runs end.NoLine c.loop.session there
    (runs_end g.P.Pages.store g.P.Pages.flush_number g.M.MergeOperator.meant c.loop.session here there (rw c.in-NoLine.is at read.takes) (prints_kept _ _ _ _ read.output read.same))

pub returns-in-BadLine-clause-runs : goal.returns-in-BadLine-clause-runs
returns-in-BadLine-clause-runs g c =
    let read = c.in_ok-next_line.ensures in
    let here = place c.loop.buffers (g.R.Read.remaining c.loop.input) (g.W.Write.contents c.loop.output) in
    let there = place c.next_line.new.buffers (g.R.Read.remaining c.next_line.new.input) (g.W.Write.contents c.next_line.new.output) in
    c.loop.invariant.runs end.BadLine c.loop.session there
    (runs_bad g.P.Pages.store g.P.Pages.flush_number g.M.MergeOperator.meant c.loop.session here there (rw c.in-BadLine.is at read.takes) (prints_kept _ _ _ _ read.output read.same))

pub returns-in-Crash-clause-runs : goal.returns-in-Crash-clause-runs
returns-in-Crash-clause-runs g c =
    let read = c.in_ok-next_line.ensures in
    let here = place c.loop.buffers (g.R.Read.remaining c.loop.input) (g.W.Write.contents c.loop.output) in
    let there = place c.next_line.new.buffers (g.R.Read.remaining c.next_line.new.input) (g.W.Write.contents c.next_line.new.output) in
    c.loop.invariant.runs _ c.loop.session there
    (runs_crash g.P.Pages.store g.P.Pages.flush_number g.M.MergeOperator.meant _ c.loop.session here there (rw c.in-Crash.is at read.takes) (prints_kept _ _ _ _ read.output read.same))

pub loop-preserved : goal.loop-preserved
loop-preserved g c =
    let read = c.in_ok-next_line.ensures in
    let here = place c.loop.buffers (g.R.Read.remaining c.loop.input) (g.W.Write.contents c.loop.output) in
    let then : Place = record { number = c.next_line.new.buffers.number; left = g.R.Read.remaining c.next_line.new.input; held = g.W.Write.contents c.answer.new.output; gathered = c.answer.new.out.items } in
    record {
      written = c.in_ok-answer-in-Command.ensures.written;
      bad = bad_kept _ _ _ c.loop.invariant.bad (rw c.in-Command.is at read.bad);
      runs = λ e last there others. c.loop.invariant.runs e last there
          (runs_command g.P.Pages.store g.P.Pages.flush_number g.M.MergeOperator.meant _ c.loop.session c.answer.new.session last e here then there _ _ (rw c.in-Command.is at read.takes) (prints_kept _ _ _ _ read.output read.same) c.in_ok-answer-in-Command.ensures.obeys others);
    }
