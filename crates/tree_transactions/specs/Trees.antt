-- A tree inside a transaction.
use Rattle.std.specs.Prelude.{◌≡◌, Option}
use Rattle.std.specs.FinMap.Entries.{put}
use Rattle.sled_nodes.specs.Order.{Key, key_cmp}
use Rattle.sled_nodes.specs.declared.error.Error.{Error}
use Rattle.sled_store.specs.Store.{Store, now}
use Rattle.tree_transactions.specs.Overlays.{ReadsThrough, RefusesThrough}
use Rattle.tree_transactions.specs.declared.errors.UnabortableTransactionError.{UnabortableTransactionError}
use Rattle.tree_transactions.specs.declared.errors.UnabortableTransactionError.TheVariants.{Conflict, Storage}
use Rattle.tree_transactions.specs.declared.tree.TransactionalTree.{TransactionalTree}

abbrev pub is_storage : (Error → Type 0) → UnabortableTransactionError → Type 0
is_storage why Conflict = ⊥
is_storage why (Storage e) = why e

-- a call inside is refused for such a cause, and not for a conflict
pub record RefusedFor (why : Error → Type 0) (e : UnabortableTransactionError) : Type 0 where
  pub is : is_storage why e

module _ {P : Type 0} (store : P → Store) (tree : TransactionalTree P) (key : Key) where
  -- the key has this value inside: the transaction's own write of it, and if there is none what is in the pages
  pub record Shows (value : Option Key) : Type 0 where
    pub is : ReadsThrough (now (store tree.pages.now)) tree.root tree.overlay key value

  -- a read of the key is refused
  pub record RefusesToShow (e : UnabortableTransactionError) : Type 0 where
    pub is : RefusedFor (RefusesThrough (store tree.pages.now) tree.root tree.overlay key) e

-- one write of a key, in the place of an earlier one if there is one, and all else as it was
pub record Records {P : Type 0} (old : TransactionalTree P) (key : Key) (value : Option Key) (new : TransactionalTree P) : Type 0 where
  pub is : new ≡ record old { overlay = put key_cmp key value old.overlay }
