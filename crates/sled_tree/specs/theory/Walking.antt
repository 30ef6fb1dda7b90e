-- Steps of the walk of a call in flight, one after the other. They change nothing but the call.
use Rattle.std.specs.Prelude.{◌<◌, Option, Some, None}
use Rattle.sled_model.specs.declared.TheConstants.{MAX_LOOPS}
use Rattle.sled_store.specs.Store.{Store}
use Rattle.sled_tree.specs.declared.flight.InFlight.{InFlight}
use Rattle.sled_tree.specs.declared.flight.Went.{Went}
use Rattle.sled_tree.specs.declared.flight.Went.TheVariants.{Moved}
use Rattle.sled_tree.specs.theory.Descent.{Settles}
use Rattle.sled_tree.specs.theory.Stages.{IsOffWalk}

-- one of them
pub record WalkStep (s : Store) (f : InFlight) (went : Went) (g : InFlight) : Type 0 where
  pub has_turns : f.turns < MAX_LOOPS
  pub on_walk : IsOffWalk f.stage → ⊥
  pub settles : Settles s f went g

-- those after which the call goes on
pub data WalksTo (s : Store) : InFlight → InFlight → Type 0 where
  Stays : {f : InFlight} → WalksTo s f f
  GoesOn : {f g h : InFlight} → WalksTo s f g → WalkStep s g Moved h → WalksTo s f h

-- and with one more, if there is one
abbrev pub walks_down_as : Store → InFlight → Option Went → InFlight → Type 0
walks_down_as s f None g = WalksTo s f g
walks_down_as s f (Some went) g = (h : InFlight) × WalksTo s f h × WalkStep s h went g

pub record WalksDown (s : Store) (f : InFlight) (went : Option Went) (g : InFlight) : Type 0 where
  pub is : walks_down_as s f went g
