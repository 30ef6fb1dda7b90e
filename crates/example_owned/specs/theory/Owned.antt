-- Of Owned, for proofs. How an owner's calls go on one after the other.
use Rattle.std.specs.Prelude.{◌≡◌, ℕ, List, [], Some}
use Rattle.std.specs.FinMap.Entries.{put}
use Rattle.sled_nodes.specs.Order.{Key, key_cmp}
use Rattle.sled_store.specs.Store.{Store}
use Rattle.sled_model.specs.Maps.{Merge}
use Rattle.sled_model.specs.declared.event.Next.{Next}
use Rattle.sled_queues.specs.Events.{Turn}
use Rattle.tree_transactions.specs.declared.tree.TransactionalTree.{TransactionalTree}
use Rattle.sled.specs.Values.{DbValue}
use Rattle.machine_shared.specs.Made.{MadeValue}
use Rattle.call_laws.specs.Calls.{MakesCalls, alone}
use Rattle.call_laws.specs.Hears.{IsKept, KeepsTree, turns_of_calls, told_to}

module _ {P M : Type 0} (store : P → Store) (flush_number : P → ℕ) (meant : M → Merge) where
  -- .. which did this to the queues and returned this to subscribers, and dropped no subscriber and no tree
  pub record Tells (old : DbValue P M) (turns : List Turn) (told : ℕ → List Next) (new : DbValue P M) : Type 0 where
    pub made : List MadeValue
    pub calls : MakesCalls store flush_number meant (alone old) made (alone new)
    pub turns_are : turns_of_calls store flush_number meant calls ≡ turns
    pub told_are : (n : ℕ) → told_to store flush_number meant n calls ≡ told n
    pub kept : (n : ℕ) → IsKept n made
    pub keeps : (name : Key) → KeepsTree name made

  -- .. which returned nothing to a subscriber
  pub record GoesQuietly (old : DbValue P M) (is_made : List MadeValue → Type 0) (brings : List Turn → Type 0) (new : DbValue P M) : Type 0 where
    pub turns : List Turn
    pub tells : Tells old turns (λ n. []) new
    pub is : is_made tells.made
    pub brought : brings turns

-- nothing happens to the queues
abbrev pub brings_nothing : List Turn → Type 0
brings_nothing turns = turns ≡ []

-- two keys are written inside a transaction
pub record WritesInside {P : Type 0} (old : TransactionalTree P) (one other value : Key) (new : TransactionalTree P) : Type 0 where
  pub is : new ≡ record old { overlay = put key_cmp other (Some value) (put key_cmp one (Some value) old.overlay) }
