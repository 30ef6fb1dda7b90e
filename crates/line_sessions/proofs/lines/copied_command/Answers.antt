use Rattle.std.proofs.Common.{◌<◌, length, sym, arith}
use Rattle.line_sessions.proofs.Reading.{begins_copied}
use Rattle.line_sessions.proofs.lines.copied_command.Goals as goal

pub returns-clause-reads : goal.returns-clause-reads
returns-clause-reads g c =
    let line = c.read_line.new.line.items in
    let read = c.in_ok-read_line.ensures in
    let some : 0 < length line = omega (arith, read.ok, c.if-branch-eq0.false, c.read_line.new.line.ok.0) in
    begins_copied (g.R.Read.remaining c.args.input.now) (g.R.Read.remaining c.read_line.new.input) line c.as_slice.result.now c.without_end.result.now _ read.bytes some read.rest c.as_slice.ensures.value c.without_end.ensures (sym c.in_ok-parse.ensures.ok)
