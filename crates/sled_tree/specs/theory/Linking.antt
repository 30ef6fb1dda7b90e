-- A call that is to link its change, in two halves: the change is prepared, and then it is linked.
use Rattle.std.specs.Prelude.{◌≡◌, ◌+◌, Bool, true, false, Option, Some, Result, Ok, Err}
use Rattle.sled_store.specs.Store.{Store, now}
use Rattle.sled_store.specs.declared.page.View.{View}
use Rattle.sled_nodes.specs.declared.error.Error.{Error}
use Rattle.sled_nodes.specs.declared.link.Link.{Link}
use Rattle.sled_model.specs.Maps.{Merge as Operator}
use Rattle.sled_model.specs.declared.reply.Reply.{Reply}
use Rattle.tree_laws.specs.declared.flight.Stage.{Stage}
use Rattle.tree_laws.specs.declared.flight.Stage.TheVariants as stage
use Rattle.sled_tree.specs.Follows.{FollowsOn}
use Rattle.sled_tree.specs.Passing.{StepsOnPath}
use Rattle.sled_tree.specs.theory.Change.{IsChangeOf}
use Rattle.sled_tree.specs.StageAction.{ActsAtMostOnce}
use Rattle.sled_tree.specs.theory.StageAction.{FlightStepBy, Only, is_action_refused_as}
use Rattle.sled_tree.specs.declared.act.Change.{Change}
use Rattle.sled_tree.specs.declared.flight.InFlight.{InFlight}
use Rattle.sled_tree.specs.declared.flight.Went.{Went}
use Rattle.sled_tree.specs.declared.flight.Went.TheVariants as went

-- the call is to link its change
abbrev pub IsAtLink : Stage → Type 0
IsAtLink (stage.Act view) = Unit {0}
IsAtLink other = ⊥

-- the call begins again, with one turn more
abbrev pub begun_again : InFlight → InFlight
begun_again f = record f { stage = stage.Root; turns = f.turns + 1 }

-- the change is that of the call at the leaf that it read, by this operator
pub record PreparesChange (operator : Option Operator) (f : InFlight) (change : Option Change) : Type 0 where
  pub is : (view : View) → f.stage ≡ stage.Act view → IsChangeOf operator f.job.call view.node.content change

-- one step of a call by this operator, as `advance` makes it
pub record StepsBy (operator : Option Operator) (old : Store) (f : InFlight) (went : Went) (new : Store) (g : InFlight) : Type 0 where
  pub advances : FlightStepBy (Only operator) old f went new g
  pub passes : StepsOnPath (now old) f went (now new) g
  pub follows : FollowsOn old f went new g

-- how the step of a call comes out that links a change with this reply: it was linked, or too late, or is refused
abbrev pub went_with : Reply → Result Bool Error → Went
went_with reply (Ok true) = went.Decided reply
went_with reply (Ok false) = went.Moved
went_with reply (Err e) = went.Refused e

abbrev pub touches_as : Result Bool Error → Store → Store → Type 0
touches_as (Ok linked) old new = ActsAtMostOnce old new
touches_as (Err e) old new = is_action_refused_as e old new

-- Such a step comes of a link, by each operator by which it is the call's, with the reply that the call has then. Whatever is linked, it
-- is one action at most, and if the link comes too late the call begins again
pub record LinksAtLeaf (link : Link) (old : Store) (f : InFlight) (done : Result Bool Error) (new : Store) (g : InFlight) : Type 0 where
  pub is : (operator : Option Operator) (reply : Reply) → PreparesChange operator f (Some (record { link = link; reply = reply })) → StepsBy operator old f (went_with reply done) new g
  pub touches : touches_as done old new
  pub again : done ≡ Ok false → g ≡ begun_again f

-- if the call is decided, this is its reply
abbrev pub replies_with : Reply → Went → Type 0
replies_with reply went.Moved = Unit {0}
replies_with reply (went.Yielded key value) = Unit {0}
replies_with reply (went.Decided told) = told ≡ reply
replies_with reply (went.Refused e) = Unit {0}

-- such a step comes of the link of a change, by each operator by which it is the call's. The reply is the one that was prepared
pub record LinksPrepared (change : Change) (old : Store) (f : InFlight) (went : Went) (new : Store) (g : InFlight) : Type 0 where
  pub is : (operator : Option Operator) → PreparesChange operator f (Some change) → StepsBy operator old f went new g
  pub replies : replies_with change.reply went
