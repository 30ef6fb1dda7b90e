use Rattle.std.proofs.Common.{arith, sym, ◌∙◌}
use Rattle.sled_pages.proofs.Rows.{none_more, none_all}
use Rattle.sled_pages.proofs.memory.blocks.is_empty.Goals as goal

pub loop-slot-preserved : goal.loop-slot-preserved
loop-slot-preserved c = none_more c.args.block.now c.loop-slot.slot-index c.slot-item.result (omega arith) c.slot-item.is (sym c.is_some.ensures ∙ c.if-is_some.false) c.loop-slot.invariant

pub returns : goal.returns
returns c = λ _. none_all c.args.block.now c.loop-slot.slot-index (omega arith) c.loop-slot.invariant
