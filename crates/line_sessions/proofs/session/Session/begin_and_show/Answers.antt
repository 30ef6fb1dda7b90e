use Rattle.line_sessions.proofs.Obeying.{shown}
use Rattle.line_sessions.proofs.session.Session.begin_and_show.Goals as goal

pub returns : goal.returns
returns g c = shown g.P.Pages.store g.P.Pages.flush_number g.M.MergeOperator.meant _ _ _ _ _ _ _ _ (c.in_ok-told.ensures.shown, c.in_ok-told.ensures.begins) c.in_ok-told.ensures.tree c.show.ensures
