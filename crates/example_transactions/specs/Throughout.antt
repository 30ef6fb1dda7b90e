-- What is so of the maps of a database, and stays so over crashes.
use Rattle.std.specs.Prelude.{◌≡◌, false}
use Rattle.sled_nodes.specs.Order.{Key}
use Rattle.sled_store.specs.State.{State}
use Rattle.sled_store.specs.Store.{Store, now}
use Rattle.sled_store.specs.Crash.{IsCrashState}
use Rattle.sled_model.specs.Maps.{Maps}
use Rattle.tree_laws.specs.Contents.{trees_of}
use Rattle.example_parts.specs.Reads.{found_in}

-- It is so of the maps now, unless the database is closed, and of all maps that a crash may leave
pub record HoldsThroughout (s : Store) (claim : Maps → Type 0) : Type 0 where
  pub as_is : (now s).in_group ≡ false → claim (trees_of (now s))
  pub left : (state : State) → IsCrashState s state → claim (trees_of state)

-- these are the maps now, and a crash can leave no others
pub record IsSettled (s : Store) (maps : Maps) : Type 0 where
  pub as_is : trees_of (now s) ≡ maps
  pub left : (state : State) → IsCrashState s state → trees_of state ≡ maps

-- What a crash left was opened: each key has what it has in one of the states that the crash might leave, and a crash can leave these maps alone
pub record Recovers (old new : Store) (maps : Maps) : Type 0 where
  pub state : State
  pub may : IsCrashState old state
  pub has : (name key : Key) → found_in (maps name) key ≡ found_in (trees_of state name) key
  pub settled : IsSettled new maps
