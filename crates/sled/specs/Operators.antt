-- Merge operators of trees.
use Rattle.std.specs.Prelude.{◌≡◌, ◌≢◌, ℕ, [], Option, Some, None}
use Rattle.sled_nodes.specs.Order.{Key}
use Rattle.sled_store.specs.Store.{Store}
use Rattle.sled_nodes.specs.declared.error.Error.{Error}
use Rattle.sled_model.specs.Maps.{Merge}
use Rattle.sled_model.specs.State.{NamedTree, CallInFlight}
use Rattle.sled_model.specs.Refusal.{ToSetOperator, MayRefuse}
use Rattle.sled_model.specs.Whole.{SetsOperator}
use Rattle.sled_model.specs.declared.tree.Tree.{Tree}
use Rattle.sled.specs.Values.{DbValue, state_of, db_state}

-- the database with no operator; its operators may be of another type then
abbrev pub without_operators : {P M N : Type 0} → DbValue P M → DbValue P N
without_operators d = record {
  pages = d.pages;
  name = d.name;
  trees = d.trees;
  operators = [];
  queues = d.queues;
  trees_given = d.trees_given;
  greatest_id = d.greatest_id;
}

-- the operator of a tree, if it has one
abbrev pub operator_of : Option NamedTree → Option Merge
operator_of None = None
operator_of (Some tree) = tree.merge

module _ {P M : Type 0} (store : P → Store) (meant : M → Merge) where
  -- .. of the tree of a name
  abbrev pub operator_at : DbValue P M → Key → Option Merge
  operator_at d name = operator_of ((db_state store meant d).trees name)

  -- the tree of every other name has the operator that it had, if it had one
  abbrev pub KeepsOperators : Key → DbValue P M → DbValue P M → Type 0
  KeepsOperators name old new = (other : Key) → other ≢ name → operator_at new other ≡ operator_at old other

  -- The tree has an operator of this meaning, whatever calls are in flight, and nothing of the database changes but its operators
  pub record OperatorSet (old : DbValue P M) (tree : Tree) (merge : Merge) (new : DbValue P M) : Type 0 where
    pub sets : (slots : ℕ → Option CallInFlight) (slots_given : ℕ) → SetsOperator (state_of store meant old slots slots_given) tree merge (state_of store meant new slots slots_given)
    pub same : new ≡ record old { operators = new.operators }

  -- It was refused, and nothing changes
  pub record OperatorNotSet (old : DbValue P M) (tree : Tree) (e : Error) (new : DbValue P M) : Type 0 where
    pub may : MayRefuse (db_state store meant old) (store old.pages) (store old.pages) (ToSetOperator tree) e
    pub is : new ≡ old
