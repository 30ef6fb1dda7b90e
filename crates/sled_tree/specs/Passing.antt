-- Calls in flight on clean paths: if no other call is in the way, a call goes on by a page a step.
use Rattle.std.specs.Prelude.{◌≡◌, ℕ, suc, true, false, List, [], Some, None, length}
use Rattle.std.specs.declared.ops.Bound.{Bound}
use Rattle.sled_nodes.specs.Order.{Key}
use Rattle.sled_store.specs.State.{State, Nodes, nodes_of}
use Rattle.sled_store.specs.declared.page.View.{View}
use Rattle.tree_laws.specs.Paths.{IsClean, CleanFrom}
use Rattle.sled_tree.specs.Change.{reply_at}
use Rattle.sled_tree.specs.Course.{Course, course_of}
use Rattle.sled_tree.specs.declared.flight.InFlight.{InFlight}
use Rattle.tree_laws.specs.declared.flight.Stage.{Stage}
use Rattle.tree_laws.specs.declared.flight.Stage.TheVariants as stage
use Rattle.sled_tree.specs.declared.flight.Went.{Went}
use Rattle.sled_tree.specs.declared.flight.Went.TheVariants as went
use Rattle.tree_laws.specs.declared.flight.Reached.{Reached}
use Rattle.tree_laws.specs.declared.flight.Reached.TheVariants as reached

-- the page is as it was read
abbrev pub IsUnchanged : State → View → Type 0
IsUnchanged s v = s.pages v.pid ≡ Some (record { version = v.version; node = v.node })

-- the rest of a clean path is ahead of a walk at a page that it reached so: no clean path goes on by `next`
abbrev pub IsAheadOf : Nodes → Bound Key → ℕ → Reached → List ℕ → Type 0
IsAheadOf nodes aim p reached.Root path = CleanFrom nodes aim p true path
IsAheadOf nodes aim p (reached.FirstPointer parent) path = CleanFrom nodes aim p true path
IsAheadOf nodes aim p (reached.LaterPointer parent) path = CleanFrom nodes aim p false path
IsAheadOf nodes aim p (reached.Next parent) path = ⊥

-- What is ahead of a call of a clean path to its key: all of it as the call begins, and then the rest from the cursor of its walk on. At
-- its leaf, which it read, and changes and finds unchanged, or gives, it is no page more
abbrev pub IsOnPath : State → Course → Stage → List ℕ → Type 0
IsOnPath s j stage.Root path = IsClean s j.tree.name j.aim path
IsOnPath s j (stage.Walk a) path = IsAheadOf (nodes_of s) j.aim a.cursor a.reached path
IsOnPath s j (stage.Act v) path = (path ≡ []) × IsUnchanged s v × (reply_at j.call v.node.content ≡ None)
IsOnPath s j (stage.Give a) path = path ≡ []
IsOnPath s j other path = ⊥

-- a path with one page less is ahead of the call
abbrev pub IsOneCloser : State → Course → Stage → List ℕ → Type 0
IsOneCloser s j stage path = (rest : List ℕ) × (length path ≡ suc (length rest)) × IsOnPath s j stage rest

abbrev pub steps_on_path_as : State → InFlight → Went → State → InFlight → Type 0
steps_on_path_as old f went.Moved new g = (path : List ℕ) → IsOnPath old (course_of f) f.stage path → IsOneCloser new (course_of g) g.stage path
steps_on_path_as old f (went.Yielded key value) new g = ⊥
steps_on_path_as old f (went.Decided reply) new g = Unit {0}
steps_on_path_as old f (went.Refused e) new g = Unit {0}

-- a step of a call in flight: on a clean path it brings the call one page further, or is its last
pub record StepsOnPath (old : State) (f : InFlight) (went : Went) (new : State) (g : InFlight) : Type 0 where
  pub is : steps_on_path_as old f went new g
