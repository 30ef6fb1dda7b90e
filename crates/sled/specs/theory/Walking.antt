-- Steps of the walk of a call in flight, which leave the database as it is.
use Rattle.std.specs.Prelude.{◌≢◌, Option, Some, None}
use Rattle.sled_model.specs.Maps.{Merge}
use Rattle.sled_store.specs.Store.{Store}
use Rattle.sled_tree.specs.declared.flight.InFlight.{InFlight}
use Rattle.sled_tree.specs.declared.flight.Went.{Went}
use Rattle.sled_tree.specs.declared.flight.Went.TheVariants.{Moved}
use Rattle.sled.specs.Values.{DbValue}
use Rattle.sled.specs.Sound.{IsDb}
use Rattle.sled.specs.Flights.{DbStepContract}

-- those after which the call goes on
pub data DbWalksTo {P M : Type 0} (store : P → Store) (meant : M → Merge) (db : DbValue P M) : InFlight → InFlight → Type 0 where
  Stays : {f : InFlight} → DbWalksTo store meant db f f
  GoesOn : {f g h : InFlight} → DbWalksTo store meant db f g → DbStepContract store meant db g Moved db h → DbWalksTo store meant db f h

-- and the one that ends the call, if there is one
abbrev pub db_walks_down_as : {P M : Type 0} → (P → Store) → (M → Merge) → DbValue P M → InFlight → Option Went → InFlight → Type 0
db_walks_down_as store meant db f None g = DbWalksTo store meant db f g
db_walks_down_as store meant db f (Some went) g = (h : InFlight) × DbWalksTo store meant db f h × DbStepContract store meant db h went db g × (went ≢ Moved)

pub record DbWalksDown {P M : Type 0} (store : P → Store) (meant : M → Merge) (db : DbValue P M) (f : InFlight) (went : Option Went) (g : InFlight) : Type 0 where
  pub sound : IsDb store db
  pub is : db_walks_down_as store meant db f went g
