use Rattle.std.proofs.Common.{◌≡◌, ◌-◌, length}
use Rattle.sled_pages.specs.Rows.{rows_of}
use Rattle.sled_pages.proofs.memory.blocks.lengthen.Given as goal

abbrev pub invariant-more : goal.invariant-more
invariant-more l = rows_of l.blocks.items ≡ rows_of l.fn.blocks.items

abbrev pub decreases-more : goal.decreases-more
decreases-more l = l.count - length l.blocks.items
