use Rattle.std.proofs.Common.{◌≡◌, ℕ, ◌<◌, None, slice_get}
use Rattle.sled_pages.specs.Joined.{joined}
use Rattle.sled_pages.proofs.memory.blocks.is_empty.Given as goal

abbrev pub invariant-loop-slot : goal.invariant-loop-slot
invariant-loop-slot l = (i : ℕ) → i < l.slot-index → joined (slice_get l.block i) ≡ None
