-- Writes that are kept beside the pages of a tree, and what is read through them.
use Rattle.std.specs.Prelude.{◌≡◌, ℕ, [], ◌∷◌, ◌++◌, Option, Some, None}
use Rattle.std.specs.Option.{unwrap_or}
use Rattle.std.specs.FinMap.Entries.{find, put}
use Rattle.std.specs.declared.ops.Bound.TheVariants.{Included}
use Rattle.sled_nodes.specs.Order.{Key, key_cmp}
use Rattle.sled_nodes.specs.declared.error.Error.{Error}
use Rattle.sled_nodes.specs.declared.error.Error.TheVariants.{NoMemory}
use Rattle.sled_batch.specs.Batch.{Writes}
use Rattle.sled_store.specs.State.{State}
use Rattle.sled_store.specs.Store.{Store, now}
use Rattle.tree_reads.specs.Leaves.{OfContents}
use Rattle.tree_reads.specs.Walk.{RefusesWalk, GivesUp, once}

-- A key has this value, or none, as it is read through an overlay over the tree with this root: the overlay's own write of the key,
-- and if it has none what is in the tree
pub record ReadsThrough (s : State) (root : ℕ) (overlay : Writes) (key : Key) (value : Option Key) : Type 0 where
  pub own : (written : Option Key) → find key_cmp key overlay ≡ Some written → value ≡ written
  pub is : OfContents s root (λ pairs. value ≡ unwrap_or (find key_cmp key overlay) (find key_cmp key pairs))

abbrev pub refuses_through_as : Option (Option Key) → Store → ℕ → Key → Error → Type 0
refuses_through_as (Some written) s root key e = e ≡ NoMemory
refuses_through_as None s root key e = RefusesWalk once s root e × GivesUp (now s) root (Included key) 0 e

-- a read through an overlay is refused as a walk to the key is, and if the overlay has a write of it for want of memory alone
pub record RefusesThrough (s : Store) (root : ℕ) (overlay : Writes) (key : Key) (e : Error) : Type 0 where
  pub is : refuses_through_as (find key_cmp key overlay) s root key e

-- an overlay with these writes too, one after the other
abbrev pub put_all : Writes → Writes → Writes
put_all [] overlay = overlay
put_all (w ∷ ws) overlay = put_all ws (put key_cmp w.0 w.1 overlay)

-- an overlay with the first of these writes too, up to the one before this, which was not put
pub record PutsSome (writes old new : Writes) : Type 0 where
  pub done : Writes
  pub next : Key × Option Key
  pub left : Writes
  pub all : done ++ next ∷ left ≡ writes
  pub is : new ≡ put_all done old
