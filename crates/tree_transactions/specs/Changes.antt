-- What is written of each tree of a list, and how it changes at one position.
use Rattle.std.specs.Prelude.{◌≡◌, ℕ, List, ◌∷◌, ◌++◌, Option, Some, slice_get, slice_set}
use Rattle.sled_nodes.specs.Order.{Key}
use Rattle.sled_batch.specs.Batch.{Writes}
use Rattle.tree_transactions.specs.Overlays.{put_all}

-- the writes at this position become what this makes of them, and those of each other position are as they were
pub record ChangesAt (old : List Writes) (position : ℕ) (writes : Writes → Writes) (new : List Writes) : Type 0 where
  pub overlay : Writes
  pub was : slice_get old position ≡ Some overlay
  pub is : new ≡ slice_set old position (writes overlay)

-- the first writes of a batch are put at this position, up to the one before this, which was not put
pub record ChangesSomeAt (old : List Writes) (position : ℕ) (batch : Writes) (new : List Writes) : Type 0 where
  pub done : Writes
  pub next : Key × Option Key
  pub left : Writes
  pub all : done ++ next ∷ left ≡ batch
  pub is : ChangesAt old position (put_all done) new
