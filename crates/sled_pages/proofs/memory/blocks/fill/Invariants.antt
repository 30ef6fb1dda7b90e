use Rattle.std.proofs.Common.{◌≡◌, ℕ, ◌-◌, ◌≤◌, length, slice_get}
use Rattle.sled_pages.specs.Joined.{joined}
use Rattle.sled_pages.proofs.memory.blocks.fill.Given as goal

abbrev pub invariant-fill : goal.invariant-fill
invariant-fill l = record {
  same : (i : ℕ) → joined (slice_get l.block.items i) ≡ joined (slice_get l.fn.block.items i);
  longer : length l.fn.block.items ≤ length l.block.items;
}

abbrev pub decreases-fill : goal.decreases-fill
decreases-fill l = 64 - length l.block.items
