use Rattle.line_sessions.proofs.Obeying.{shown}
use Rattle.line_sessions.proofs.session.Session.point_and_show.Goals as goal

pub returns : goal.returns
returns g c = shown g.P.Pages.store g.P.Pages.flush_number g.M.MergeOperator.meant _ _ _ _ _ _ _ _ (c.point.ensures.shown, c.point.ensures.completes, c.point.ensures.slots) c.point.ensures.tree c.show.ensures
