use Rattle.line_sessions.proofs.Obeying.{opened_shown}
use Rattle.line_sessions.proofs.session.Session.open_tree.Goals as goal

pub returns : goal.returns
returns g c = opened_shown g.P.Pages.store g.P.Pages.flush_number g.M.MergeOperator.meant _ _ _ _ _ _ _ _ (c.whole_shown-shown.ensures.shown, c.whole_shown-shown.ensures.reaches, c.whole_shown-shown.ensures.slots) c.whole_shown-shown.ensures.tree c.follow.ensures c.in_ok-pushed.ensures.ok
