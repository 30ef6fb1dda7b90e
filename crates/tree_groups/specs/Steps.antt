-- The steps of a write of a group.
use Rattle.std.specs.Prelude.{◌+◌, ◌<◌, ◌≤◌}
use Rattle.sled_nodes.specs.declared.error.Error.{Error}
use Rattle.sled_store.specs.State.{nodes_of}
use Rattle.sled_store.specs.Store.{Store, now}
use Rattle.sled_model.specs.Refusal.{TellsTurns, turns_limit}
use Rattle.sled_model.specs.declared.reply.Reply.{Reply}
use Rattle.tree_laws.specs.Forest.{Forest, WellFormed}
use Rattle.tree_laws.specs.Stages.{owned}
use Rattle.tree_laws.specs.declared.flight.Stage.{Stage}
use Rattle.sled_tree.specs.Course.{course_of}
use Rattle.sled_tree.specs.Follows.{Follows}
use Rattle.sled_tree.specs.StageAction.{ActsAtMostOnce, leaks_no_page_as}
use Rattle.sled_tree.specs.declared.flight.InFlight.{InFlight}
use Rattle.sled_tree.specs.declared.flight.Sequel.{Sequel}
use Rattle.sled_tree.specs.declared.flight.Sequel.TheVariants.{Go, Decided, Refused}

-- A call that has turns left does the step of its stage, and this comes next: it does one changing action at most, and leaves no page of its
-- own behind
pub record WriteStep (old : Store) (f : InFlight) (next : Sequel) (new : Store) : Type 0 where
  pub room : f.turns < turns_limit
  pub follows : Follows (course_of f) old f.stage next new
  pub acts : ActsAtMostOnce old new
  pub leaves : (v : Forest) → WellFormed (nodes_of (now new)) (now new).roots v → leaks_no_page_as next (owned f.stage) (now old) (now new) v

-- the call goes on from this stage
abbrev pub goes_on_from : Stage → InFlight → InFlight
goes_on_from stage f = record f { stage = stage; turns = f.turns + 1 }

-- The steps of a call from where it is until it is decided, and nothing between them
pub data WriteSteps : Store → InFlight → Store → Type 0 where
  Ends : {a b : Store} {f : InFlight} {reply : Reply} → WriteStep a f (Decided reply) b → WriteSteps a f b
  GoesOn : {a m b : Store} {f : InFlight} {stage : Stage} → WriteStep a f (Go stage) m → WriteSteps m (goes_on_from stage f) b → WriteSteps a f b

-- .. or until one is refused, or until it has no turns left
pub data RefusedSteps : Store → InFlight → Store → Error → Type 0 where
  StopsAt : {a b : Store} {f : InFlight} {e : Error} → f.turns < turns_limit → Follows (course_of f) a f.stage (Refused e) b → RefusedSteps a f b e
  RunsOut : {s : Store} {f : InFlight} {e : Error} → turns_limit ≤ f.turns → TellsTurns e → RefusedSteps s f s e
  StopsLater : {a m b : Store} {f : InFlight} {e : Error} {stage : Stage} → WriteStep a f (Go stage) m → RefusedSteps m (goes_on_from stage f) b e → RefusedSteps a f b e
