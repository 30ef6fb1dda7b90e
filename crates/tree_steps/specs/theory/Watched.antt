-- One step of a call in flight, over the pages and the queues of subscribers.
use Rattle.std.specs.Prelude.{◌≡◌, ℕ, Bool, true, false, Option, Some, None}
use Rattle.sled_store.specs.Store.{Store}
use Rattle.sled_store.specs.declared.page.View.{View}
use Rattle.sled_model.specs.Maps.{Merge}
use Rattle.sled_model.specs.Answer.{event_of, key_of}
use Rattle.sled_nodes.specs.Ranges.{Range}
use Rattle.sled_model.specs.State.{range_of}
use Rattle.sled_model.specs.declared.event.Event.{Event}
use Rattle.sled_queues.specs.Values.{QueuesValue, queue_at}
use Rattle.sled_queues.specs.Queues.{Becomes, prepared, committed}
use Rattle.sled_queues.specs.Tells.{IsUnwatched}
use Rattle.tree_laws.specs.declared.flight.Stage.{Stage}
use Rattle.tree_laws.specs.declared.flight.Stage.TheVariants as stage
use Rattle.sled_tree.specs.Change.{decision_at}
use Rattle.sled_tree.specs.theory.Linking.{IsAtLink, PreparesChange, StepsBy, replies_with}
use Rattle.tree_scans.specs.Scans.{ScanStep}
use Rattle.sled_tree.specs.declared.act.Change.{Change}
use Rattle.sled_tree.specs.declared.flight.InFlight.{InFlight}
use Rattle.sled_tree.specs.declared.flight.Went.{Went}
use Rattle.sled_tree.specs.declared.flight.Went.TheVariants.{Moved, Yielded, Decided, Refused}

-- the call is to link its change, or it is not, or no queue waits for its key
abbrev pub links_watched_as : QueuesValue → InFlight → Bool → Type 0
links_watched_as queues f true = IsAtLink f.stage
links_watched_as queues f false = (view : View) → f.stage ≡ stage.Act view → IsUnwatched f.job.tree.number (key_of f.job.call) (queue_at queues)

-- an event of a tree was sent, or there was none
abbrev pub told : ℕ → Option Event → QueuesValue → QueuesValue → Type 0
told tree None old new = Becomes (queue_at old) old.given new
told tree (Some event) old new = Becomes (committed (prepared tree event (queue_at old))) old.given new

-- the event of a change was sent that a call linked by this operator
abbrev pub told_by : Option Merge → InFlight → Stage → QueuesValue → QueuesValue → Type 0
told_by operator f (stage.Act view) old new = told f.job.tree.number (event_of (decision_at operator f.job.call view.node.content).effect (key_of f.job.call)) old new
told_by operator f other old new = Becomes (queue_at old) old.given new

-- what a step sent
abbrev pub tells_as : Option Merge → InFlight → Went → QueuesValue → QueuesValue → Type 0
tells_as operator f Moved old new = Becomes (queue_at old) old.given new
tells_as operator f (Yielded key value) old new = Becomes (queue_at old) old.given new
tells_as operator f (Decided reply) old new = told_by operator f f.stage old new
tells_as operator f (Refused e) old new = Becomes (queue_at old) old.given new

-- The step of a call on a key is one over the pages alone, and sends the event of the change that it links
pub record AdvancesOver (operator : Option Merge) (a : Store) (old : QueuesValue) (f : InFlight) (went : Went) (b : Store) (new : QueuesValue) (g : InFlight) : Type 0 where
  pub steps : StepsBy operator a f went b g
  pub tells : tells_as operator f went old new

-- such a step comes of a change that was prepared, by each operator by which it is the call's. The reply is the one that was prepared
pub record TellsPrepared (change : Change) (a : Store) (old : QueuesValue) (f : InFlight) (went : Went) (b : Store) (new : QueuesValue) (g : InFlight) : Type 0 where
  pub is : (operator : Option Merge) → PreparesChange operator f (Some change) → AdvancesOver operator a old f went b new g
  pub replies : replies_with change.reply went

-- .. and that of a scan is one over the pages alone, and sends nothing
abbrev pub steps_over_as : Option Range → Option Merge → Store → QueuesValue → InFlight → Went → Store → QueuesValue → InFlight → Type 0
steps_over_as None operator a old f went b new g = AdvancesOver operator a old f went b new g
steps_over_as (Some range) operator a old f went b new g = ScanStep (StepsBy None) a f went b g × Becomes (queue_at old) old.given new

pub record StepsOver (operator : Option Merge) (a : Store) (old : QueuesValue) (f : InFlight) (went : Went) (b : Store) (new : QueuesValue) (g : InFlight) : Type 0 where
  pub is : steps_over_as (range_of f.job.call) operator a old f went b new g
