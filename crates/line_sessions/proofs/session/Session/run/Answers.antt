use Rattle.line_words.specs.declared.command.Command.TheVariants as command
use Rattle.line_sessions.proofs.Obeying.{obeyed_as, obeyed_shown, obeyed_step, obeyed_finish, obeyed_abandon}
use Rattle.line_sessions.proofs.session.Session.run.Goals as goal

pub returns-in-Point : goal.returns-in-Point
returns-in-Point g c = obeyed_as g.P.Pages.store g.P.Pages.flush_number g.M.MergeOperator.meant _ _ (command.Point c.in-Point.call) _ _ _ _ _ c.in-Point.is c.point_and_show.ensures

pub returns-in-Begin : goal.returns-in-Begin
returns-in-Begin g c = obeyed_as g.P.Pages.store g.P.Pages.flush_number g.M.MergeOperator.meant _ _ (command.Begin c.in-Begin.call) _ _ _ _ _ c.in-Begin.is c.begin_and_show.ensures

pub returns-in-Step : goal.returns-in-Step
returns-in-Step g c = obeyed_step g.P.Pages.store g.P.Pages.flush_number g.M.MergeOperator.meant _ _ c.in-Step.number _ _ _ _ _ c.in-Step.is c.act_and_show.ensures

pub returns-in-Finish : goal.returns-in-Finish
returns-in-Finish g c = obeyed_finish g.P.Pages.store g.P.Pages.flush_number g.M.MergeOperator.meant _ _ c.in-Finish.number _ _ _ _ _ c.in-Finish.is c.act_and_show-in-Finish.ensures

pub returns-in-Abandon : goal.returns-in-Abandon
returns-in-Abandon g c = obeyed_abandon g.P.Pages.store g.P.Pages.flush_number g.M.MergeOperator.meant _ _ c.in-Abandon.number _ _ _ _ _ c.in-Abandon.is c.act_and_show-in-Abandon.ensures

pub returns-in-Batch : goal.returns-in-Batch
returns-in-Batch g c = obeyed_as g.P.Pages.store g.P.Pages.flush_number g.M.MergeOperator.meant _ _ (command.Batch c.in-Batch.batch) _ _ _ _ _ c.in-Batch.is c.apply_and_show.ensures

pub returns-in-Flush : goal.returns-in-Flush
returns-in-Flush g c = obeyed_shown g.P.Pages.store g.P.Pages.flush_number g.M.MergeOperator.meant _ _ command.Flush _ _ _ _ _ _ _ c.in-Flush.is (c.whole_shown.ensures.shown, c.whole_shown.ensures.reaches, c.whole_shown.ensures.slots) c.whole_shown.ensures.tree c.show.ensures

pub returns-in-OpenTree : goal.returns-in-OpenTree
returns-in-OpenTree g c = obeyed_as g.P.Pages.store g.P.Pages.flush_number g.M.MergeOperator.meant _ _ (command.OpenTree c.in-OpenTree.name) _ _ _ _ _ c.in-OpenTree.is c.open_tree.ensures
