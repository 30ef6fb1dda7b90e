use Rattle.line_sessions.specs.Serve.{place}
use Rattle.line_sessions.proofs.Serving.{lived}
use Rattle.line_sessions.proofs.serve.live.Goals as goal

pub returns-in-Ok-lines-clause-lived : goal.returns-in-Ok-lines-clause-lived
returns-in-Ok-lines-clause-lived g c =
    let over = c.in-Ok-over.ensures in
    let here = place c.args.buffers.now (g.R.Read.remaining c.args.input.now) (g.W.Write.contents c.args.output.now) in
    lived _ c.in-Ok.db _ _ c.in-Ok-over.session c.lines.new.session here _ _ _ _ _ c.in-Ok.ensures.ok c.with_operators-db.ensures over.db over.tree over.flights over.given over.slots c.in_default.ensures.prints c.in-Ok-lines.ensures.lives c.into_db-in-Ok-lines.ensures c.into_pages-in-Ok-lines.ensures.pages
