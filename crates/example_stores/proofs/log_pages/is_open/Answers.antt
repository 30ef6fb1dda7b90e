use Rattle.std.proofs.Common.{refl, sym, ◌∙◌}
use Rattle.example_stores.proofs.Logging.{group_begun, group_over, group_other}
use Rattle.example_stores.proofs.log_pages.is_open.Goals as goal

pub returns-in-GroupBegan : goal.returns-in-GroupBegan
returns-in-GroupBegan c =
    sym (group_begun c.args.log.now c.loop-i.i c.from_end.result.now c.loop-i-test.true c.from_end.ensures c.in-GroupBegan.is) ∙ c.loop-i.invariant

pub returns-in-GroupEnded : goal.returns-in-GroupEnded
returns-in-GroupEnded c =
    sym (group_over c.args.log.now c.loop-i.i c.from_end.result.now c.loop-i-test.true c.from_end.ensures c.in-GroupEnded.is) ∙ c.loop-i.invariant

pub loop-i-preserved : goal.loop-i-preserved
loop-i-preserved c =
    group_other c.args.log.now c.loop-i.i c.from_end.result.now c.loop-i-test.true c.from_end.ensures c.from_end.result.now refl c.in_default.not-GroupBegan c.in_default.not-GroupEnded
    ∙ c.loop-i.invariant
