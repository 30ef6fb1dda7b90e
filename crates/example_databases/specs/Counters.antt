-- Counters in a tree of a database.
use Rattle.std.specs.Prelude.{◌≡◌, ◌≢◌, ℕ}
use Rattle.sled_nodes.specs.Order.{Key}
use Rattle.sled_store.specs.Store.{Store}
use Rattle.sled_model.specs.Maps.{Maps}
use Rattle.sled.specs.Values.{DbValue}
use Rattle.example_parts.specs.Reads.{found_in, maps_now}
use Rattle.example_parts.specs.Counters.{adding, counter_in}

-- the maps of a database whose operators all add
abbrev pub counters_now : {P M : Type 0} → (P → Store) → DbValue P M → Maps
counters_now store d = maps_now store (λ o. adding) d

-- the counter is at this number, and all others, of this tree and of every other, are as before
pub record SetsCounter (old new : Maps) (tree name : Key) (n : ℕ) : Type 0 where
  pub here : counter_in new tree name ≡ n
  pub names : (other : Key) → other ≢ name → found_in (new tree) other ≡ found_in (old tree) other
  pub trees : (other : Key) → other ≢ tree → new other ≡ old other
