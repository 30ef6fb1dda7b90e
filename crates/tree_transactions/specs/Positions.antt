-- Trees inside a transaction, by their positions in its list.
use Rattle.std.specs.Prelude.{◌≡◌, ℕ, ◌⊎◌, Option, Some, None, slice_get}
use Rattle.sled_nodes.specs.Order.{Key}
use Rattle.sled_nodes.specs.declared.error.Error.{Error}
use Rattle.sled_nodes.specs.declared.error.Error.TheVariants.{Unsupported, NoMemory}
use Rattle.sled_nodes.specs.declared.texts.TheConstants.{NO_TREE_AT_THIS_POSITION}
use Rattle.sled_batch.specs.Batch.{Writes}
use Rattle.sled_store.specs.Store.{Store, now}
use Rattle.tree_transactions.specs.Overlays.{ReadsThrough, RefusesThrough}
use Rattle.tree_transactions.specs.Changes.{ChangesAt, ChangesSomeAt}
use Rattle.tree_transactions.specs.Trees.{RefusedFor}
use Rattle.tree_transactions.specs.declared.errors.UnabortableTransactionError.{UnabortableTransactionError}
use Rattle.tree_transactions.specs.declared.trees.TransactionalTrees.{TransactionalTrees}

abbrev pub tells_no_tree : Error → Type 0
tells_no_tree (Unsupported text) = text.now ≡ NO_TREE_AT_THIS_POSITION.now
tells_no_tree e = ⊥

module _ {P : Type 0} (trees : TransactionalTrees P) (position : ℕ) where
  -- there is a tree at this position, with this root, of which this was written
  pub record IsAt (root : ℕ) (overlay : Writes) : Type 0 where
    pub root_is : slice_get trees.roots.now position ≡ Some root
    pub overlay_is : slice_get trees.overlays position ≡ Some overlay

  -- there is none
  pub record LacksTree (e : Error) : Type 0 where
    pub none : (slice_get trees.roots.now position ≡ None) ⊎ (slice_get trees.overlays position ≡ None)
    pub is : tells_no_tree e

-- why a call of the tree at a position is refused: there is none, or by what the call says of the tree that there is
pub record RefusesAt {P : Type 0} (trees : TransactionalTrees P) (position : ℕ) (why : ℕ → Writes → Error → Type 0) (e : UnabortableTransactionError) : Type 0 where
  pub is : RefusedFor (LacksTree trees position) e ⊎ ((root : ℕ) × (overlay : Writes) × IsAt trees position root overlay × RefusedFor (why root overlay) e)

module _ {P : Type 0} (store : P → Store) (trees : TransactionalTrees P) (position : ℕ) (key : Key) where
  -- the key of the tree at this position has this value inside: the own write of it there, and if there is none what is in the pages
  pub record ShowsAt (value : Option Key) : Type 0 where
    pub root : ℕ
    pub overlay : Writes
    pub at : IsAt trees position root overlay
    pub is : ReadsThrough (now (store trees.pages.now)) root overlay key value

  -- a read of the key there is refused
  pub record RefusesToShowAt (e : UnabortableTransactionError) : Type 0 where
    pub is : RefusesAt trees position (λ root overlay. RefusesThrough (store trees.pages.now) root overlay key) e

-- the writes of the tree at this position become what this makes of them, and all else is as it was: those of each other position too
pub record WritesAt {P : Type 0} (old : TransactionalTrees P) (position : ℕ) (writes : Writes → Writes) (new : TransactionalTrees P) : Type 0 where
  pub changes : ChangesAt old.overlays position writes new.overlays
  pub rest : new ≡ record old { overlays = new.overlays }

-- a batch is refused: there is no tree, and nothing changes; or there is no memory, and the first of its writes are put there, but not all
pub record StopsApplying {P : Type 0} (old : TransactionalTrees P) (position : ℕ) (batch : Writes) (new : TransactionalTrees P) (e : UnabortableTransactionError) : Type 0 where
  pub is : (RefusedFor (LacksTree old position) e × (new ≡ old)) ⊎ (RefusedFor (λ cause. cause ≡ NoMemory) e × ChangesSomeAt old.overlays position batch new.overlays)
  pub rest : new ≡ record old { overlays = new.overlays }
