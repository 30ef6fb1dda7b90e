-- How many steps a call on a key takes if no other call does a step.
use Rattle.std.specs.Prelude.{◌+◌, ◌<◌, ◌≤◌}
use Rattle.sled_nodes.specs.declared.error.Error.{Error}
use Rattle.sled_store.specs.State.{nodes_of}
use Rattle.sled_store.specs.Store.{Store, now}
use Rattle.sled_model.specs.Maps.{Merge}
use Rattle.sled_model.specs.Refusal.{TellsTurns, turns_limit}
use Rattle.sled_model.specs.State.{IsOnKey}
use Rattle.sled_model.specs.declared.call.Call.{Call}
use Rattle.sled_model.specs.declared.tree.Tree.{Tree}
use Rattle.sled_tree.specs.Known.{IsKnown}
use Rattle.sled_tree.specs.declared.flight.InFlight.{InFlight}
use Rattle.sled_tree.specs.declared.flight.Went.{Went}
use Rattle.tree_progress.specs.Alone.{alone_steps, resumed_steps}
use Rattle.tree_progress.specs.Steps.{HasHalves}
use Rattle.sled.specs.Direct.{begun_flight, PointRefused}
use Rattle.sled.specs.Flights.{DbRunsToEnd, has_turns}
use Rattle.sled.specs.Sound.{IsDb}
use Rattle.sled.specs.Values.{DbValue, snapshot_of_db}

-- Fewer steps of the call go on than `alone_steps` of the pages, and so it is refused for its turns only if that number is above the limit
-- of turns
pub record TakesFew {P M : Type 0} (store : P → Store) (meant : M → Merge) (old : DbValue P M) (tree : Tree) (call : Call) : Type 0 where
  pub few : (new : DbValue P M) (went : Went) (last : InFlight) → (r : DbRunsToEnd store meant old (begun_flight tree call) went new last) → r.moves < alone_steps (now (store old.pages)) tree.name
  pub unlimited : (new : DbValue P M) (e : Error) → PointRefused store meant old tree call e new → TellsTurns e → turns_limit < alone_steps (now (store old.pages)) tree.name

-- of every database as it should be, and every call on a key of every tree
abbrev pub DirectLaw : {P M : Type 0} → (P → Store) → (M → Merge) → Type 0
DirectLaw {P} {M} store meant = (old : DbValue P M) (tree : Tree) (call : Call) → IsDb store old → IsOnKey call → TakesFew store meant old tree call

-- At most `resumed_steps` steps of a call in flight go on up to its end, and if it has more turns left it is not refused for them
pub record FinishesSoon {P M : Type 0} (store : P → Store) (meant : M → Merge) (old : DbValue P M) (f : InFlight) (went : Went) (new : DbValue P M) (last : InFlight) (r : DbRunsToEnd store meant old f went new last) : Type 0 where
  pub few : r.moves ≤ resumed_steps (now (store old.pages)) f.job.tree.name
  pub unlimited : f.turns + resumed_steps (now (store old.pages)) f.job.tree.name < turns_limit → has_turns went

-- Of every call in flight on a key, whatever its stage is and whatever others left half done: what it knows is true, and a split that it
-- has begun has the halves that a split makes
abbrev pub FinishLaw : {P M : Type 0} → (P → Store) → (M → Merge) → Type 0
FinishLaw {P} {M} store meant = (old : DbValue P M) (f : InFlight) → IsDb store old → IsOnKey f.job.call → IsKnown (snapshot_of_db store old) f → HasHalves (nodes_of (now (store old.pages))) f.stage
    → (new : DbValue P M) (went : Went) (last : InFlight) (r : DbRunsToEnd store meant old f went new last) → FinishesSoon store meant old f went new last r
