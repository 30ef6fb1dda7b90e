-- What contracts see of a database, and the state of the model that it stands for.
use Rattle.std.specs.Prelude.{ℕ, nat_le, nat_lt, ◌&&◌, Bool, not, List, Option, Some, None, option_map}
use Rattle.std.specs.FinMap.Entries.{find}
use Rattle.std.specs.Ordering.{nat_cmp}
use Rattle.sled_nodes.specs.Order.{Key, key_cmp}
use Rattle.sled_store.specs.Store.{Store, now}
use Rattle.sled_model.specs.Maps.{Map, Merge}
use Rattle.sled_model.specs.State.{State, NamedTree, CallInFlight}
use Rattle.sled_model.specs.Transition.{Configuration}
use Rattle.sled_queues.specs.Values.{QueuesValue, queue_at}
use Rattle.sled_queues.specs.Queues.{queues_of}
use Rattle.tree_laws.specs.Contents.{trees_of}
use Rattle.tree_laws.specs.Snapshot.{Snapshot, snapshot_of}

-- the pages, the database's name, the trees' numbers by name, the operators by tree number, the queues of subscribers, and the counters
pub record DbValue (P M : Type 0) : Type 0 where
  pub pages : P
  pub name : Key
  pub trees : List (Key × ℕ)
  pub operators : List (ℕ × M)
  pub queues : QueuesValue
  pub trees_given : ℕ
  pub greatest_id : ℕ

-- the number of each name's tree
abbrev pub numbers_of : List (Key × ℕ) → Key → Option ℕ
numbers_of trees name = find key_cmp name trees

-- numbers are given from 1 on
abbrev pub given_to : ℕ → ℕ → Bool
given_to last n = nat_lt 0 n && nat_le n last

-- a tree has its number, its map, and its operator
abbrev pub named : Option ℕ → Option Map → (ℕ → Option Merge) → Option NamedTree
named None map merge = None
named (Some n) None merge = None
named (Some n) (Some m) merge = Some (record { number = n; map = m; merge = merge n })

-- The state: the trees' maps are the contents of the store's pages now, and the database is open while no group is
abbrev pub state_of : {P M : Type 0} → (P → Store) → (M → Merge) → DbValue P M → (ℕ → Option CallInFlight) → ℕ → State
state_of store meant d slots slots_given = record {
  name = d.name;
  trees = λ t. named (find key_cmp t d.trees) (trees_of (now (store d.pages)) t) (λ n. option_map meant (find nat_cmp n d.operators));
  queues = queues_of (queue_at d.queues);
  slots = slots;
  is_open = not (now (store d.pages)).in_group;
  greatest_id = d.greatest_id;
  mark = (store d.pages).mark;
  trees_given = d.trees_given;
  slots_given = slots_given;
  subscribers_given = d.queues.given;
}

-- the state with no call in flight
abbrev pub db_state : {P M : Type 0} → (P → Store) → (M → Merge) → DbValue P M → State
db_state store meant d = state_of store meant d (λ n. None) 0

-- the state and its store, which would answer this number to a flush
abbrev pub configuration_of : {P M : Type 0} → (P → Store) → (M → Merge) → DbValue P M → (ℕ → Option CallInFlight) → ℕ → ℕ → Configuration
configuration_of store meant d slots slots_given number = record { state = state_of store meant d slots slots_given; store = store d.pages; flush_number = number }

-- the moment of the database's store, with the trees' numbers
abbrev pub snapshot_of_db : {P M : Type 0} → (P → Store) → DbValue P M → Snapshot
snapshot_of_db store d = snapshot_of (store d.pages) (numbers_of d.trees) (given_to d.trees_given)
