use Rattle.std.proofs.Common.{sym, subst}
use Rattle.std.specs.Io.BufRead.{FillKeeps}
use Rattle.line_sessions.proofs.Holding.{begins_held}
use Rattle.line_sessions.proofs.lines.held_command.Goals as goal

pub returns-clause-reads : goal.returns-clause-reads
returns-clause-reads g c =
    let rested = c.fill_buf.follows.lender-at-none in
    let filled = subst (FillKeeps _ (g.R.Read.remaining rested) (g.R.BufRead.consumable_len rested)) c.in-Ok.is c.fill_buf.follows.holds-at-none in
    begins_held (g.R.Read.remaining c.args.input.now) (g.R.Read.remaining rested) (g.R.Read.remaining c.consume.new.self) (g.R.BufRead.consumable_len rested) c.in-Ok.held.now c.in-Some.end c.in_ok-command.command
    c.in-Ok.ensures.front filled.0 filled.1 c.consume.ensures.bytes c.in-Some.ensures (sym c.in_ok-command.ensures.ok)
