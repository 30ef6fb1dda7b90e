-- A number at a key of a tree that threads raise, and what a crash leaves of it.
use Rattle.std.specs.Prelude.{◌≡◌, ℕ, ◌+◌, ◌≤◌, Bool, true, false}
use Rattle.sled_nodes.specs.Order.{Key}
use Rattle.sled_store.specs.Store.{Store, now}
use Rattle.sled_model.specs.Maps.{Maps}
use Rattle.tree_laws.specs.Contents.{trees_of}
use Rattle.tree_laws.specs.Crashes.{IsValid}
use Rattle.example_parts.specs.Counters.{number_in}
use Rattle.example_shared.specs.Places.{value_at}

-- the number at a key of the tree of this name
abbrev pub number_under : Maps → Key → Key → ℕ
number_under maps tree key = number_in (value_at maps tree key)

-- .. in the maps of a store
abbrev pub number_stored : Store → Key → Key → ℕ
number_stored s tree key = number_under (trees_of (now s)) tree key

-- The number was raised by so much, from what it was at first, and what was found after the crash lies between the two. After a flush of
-- all no raise is lost
pub record Survives (flushes : Bool) (first by raised found : ℕ) : Type 0 where
  pub all : raised ≡ first + by
  pub least : first ≤ found
  pub most : found ≤ raised
  pub flushed : flushes ≡ true → found ≡ raised

-- pages that can be opened
pub record CanOpen (s : Store) : Type 0 where
  pub well : IsValid (now s)
  pub no_group : (now s).in_group ≡ false
