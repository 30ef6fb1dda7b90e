use Rattle.std.proofs.Common.{ap, ◌∙◌}
use Rattle.sled_pages.specs.Rows.{rows_of}
use Rattle.sled_pages.proofs.Rows.{rows_pushed}
use Rattle.sled_pages.proofs.memory.blocks.lengthen.Goals as goal

pub more-preserved : goal.more-preserved
more-preserved c = ap rows_of c.in_ok-push.ensures.items ∙ (rows_pushed c.more.blocks.items c.new.result c.new.ensures.items ∙ c.more.invariant)
