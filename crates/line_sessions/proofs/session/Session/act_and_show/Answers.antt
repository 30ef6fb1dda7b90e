use Rattle.line_sessions.proofs.Obeying.{acted_shown}
use Rattle.line_sessions.proofs.session.Session.act_and_show.Goals as goal

pub returns : goal.returns
returns g c = acted_shown g.P.Pages.store g.P.Pages.flush_number g.M.MergeOperator.meant _ _ _ c.act.result.0 c.act.result.1 _ _ _ _ c.act.ensures.acts c.act.ensures.tree c.act.ensures.slots c.show.ensures
