-- What holds of a database between two calls.
use Rattle.std.specs.Prelude.{◌≡◌, ◌≤◌, ℕ, true, Some, ◌<◌, None}
use Rattle.std.specs.FinMap.Entries.{is_sorted, find}
use Rattle.sled_nodes.specs.Order.{Key, key_cmp}
use Rattle.std.specs.Ordering.{nat_cmp}
use Rattle.sled_store.specs.Store.{Store}
use Rattle.sled_model.specs.Maps.{Map, Maps}
use Rattle.sled_model.specs.State.{default_name}
use Rattle.tree_laws.specs.Forest.{Forest, IsSized}
use Rattle.tree_laws.specs.Crashes.{IsCrashConsistent}
use Rattle.tree_laws.specs.Snapshot.{HasForest, nodes_at}
use Rattle.sled.specs.Values.{DbValue, snapshot_of_db, numbers_of}
use Rattle.sled_queues.specs.Values.{queue_at}
use Rattle.sled_queues.specs.Queues.{IsCalm}

-- The pages are well formed now and in every state that a crash may leave: they have the shape of a forest, and no page has more
-- than 33 entries, or 17 while it is a merging child. The trees' numbers are those of the roots
pub record IsDb {P M : Type 0} (store : P → Store) (d : DbValue P M) : Type 0 where
  pub forest : Forest
  pub is : HasForest (snapshot_of_db store d) forest
  pub sized : IsSized (nodes_at (snapshot_of_db store d)) forest
  pub safe : IsCrashConsistent (store d.pages)
  -- the trees ascend by name, and the default tree is there
  pub ascends : is_sorted key_cmp d.trees ≡ true
  pub default : (n : ℕ) × (numbers_of d.trees default_name ≡ Some n)
  -- no number that was not given has an operator
  pub ungiven : (n : ℕ) → d.trees_given < n → find nat_cmp n d.operators ≡ None
  -- no event is prepared for a subscriber that does not wait yet
  pub calm : IsCalm (queue_at d.queues)
  -- the ids that were given were set aside
  pub ids : d.greatest_id ≤ (store d.pages).mark

-- the pairs of each map rise by key, and no key is in it twice
pub record MapsAscend (maps : Maps) : Type 0 where
  pub is : (name : Key) (map : Map) → maps name ≡ Some map → is_sorted key_cmp map ≡ true
