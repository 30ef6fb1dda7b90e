-- One write of a group, over the pages alone.
use Rattle.std.specs.Prelude.{◌≡◌, ◌≢◌, ℕ, ◌≤◌, ◌⊎◌, Bool, true, List, [], ◌∷◌, length, Option, Some, None}
use Rattle.std.specs.declared.ops.Bound.TheVariants.{Included}
use Rattle.sled_nodes.specs.declared.error.Error.{Error}
use Rattle.sled_nodes.specs.declared.error.Error.TheVariants.{NoMemory, Io}
use Rattle.sled_nodes.specs.declared.node.Node.{Node}
use Rattle.sled_store.specs.In.{In}
use Rattle.sled_store.specs.State.{GroupBegins, GroupEnds}
use Rattle.sled_store.specs.Store.{Store, now, after_action, only_faults, HasUnreadable}
use Rattle.sled_model.specs.Maps.{Merge}
use Rattle.sled_model.specs.Answer.{answer_of, key_of}
use Rattle.sled_model.specs.Refusal.{TellsTurns, turns_limit}
use Rattle.tree_laws.specs.Contents.{trees_of}
use Rattle.tree_laws.specs.Crashes.{AddsCrashStates, IsValid}
use Rattle.tree_laws.specs.Forest.{Tree, Forest, Place, IsSized, contents}
use Rattle.tree_laws.specs.Paths.{IsClean}
use Rattle.tree_laws.specs.Snapshot.{Snapshot, snapshot_of, nodes_at, HasForest}
use Rattle.tree_laws.specs.declared.flight.Stage.TheVariants.{Root}
use Rattle.sled_tree.specs.Known.{IsKnown}
use Rattle.sled_tree.specs.StageAction.{ActsOnce}
use Rattle.sled_tree.specs.declared.flight.Aim.TheVariants.{Own}
use Rattle.sled_tree.specs.declared.flight.InFlight.{InFlight}
use Rattle.sled_tree.specs.declared.flight.Job.{Job}
use Rattle.tree_groups.specs.Steps.{WriteSteps, RefusedSteps}

-- a call that has yet to begin
abbrev pub fresh_call : Job → InFlight
fresh_call j = record { job = j; aim = Own; stage = Root; turns = 0 }

abbrev pub IsFresh : InFlight → Type 0
IsFresh f = f ≡ fresh_call f.job

-- any number of changing actions, one after the other, of which none begins or ends a group
pub data ActsOften : Store → Store → Type 0 where
  NoAction : {s : Store} → ActsOften s s
  OneAction : {a b c : Store} → ActsOnce a b → ActsOften b c → ActsOften a c

-- A write is refused for want of memory, for a fault of the store, or because its turns are used up. That changes nothing, but that
-- the fault may be counted; without that some page is not readable
abbrev pub is_write_refused_as : Error → Store → Store → Type 0
is_write_refused_as NoMemory old new = new ≡ old
is_write_refused_as (Io fault) old new = only_faults (Io fault) old new ⊎ ((new ≡ old) × HasUnreadable old)
is_write_refused_as e old new = TellsTurns e × (new ≡ old)

-- a page number that was given stays given; a page that is merging stays as it is until it is freed; and one that was freed never comes back
pub record PagesLast (m n : Snapshot) : Type 0 where
  pub pids : (p : ℕ) → m.pids p ≡ true → n.pids p ≡ true
  pub merges : (p : ℕ) (d : Node) → nodes_at m p ≡ Some d → d.merging ≡ true → (nodes_at n p ≡ Some d) ⊎ (nodes_at n p ≡ None)
  pub gone : (p : ℕ) → m.pids p ≡ true → nodes_at m p ≡ None → nodes_at n p ≡ None

-- Of any number of actions: there is a forest after them, of the size that it should have, and what every call in flight knows stays true.
-- No page of a tree is lost: each one is there still, or is merging, or was freed
pub record Keeps (m : Snapshot) (w : Forest) (n : Snapshot) (v : Forest) : Type 0 where
  pub is : HasForest n v
  pub sized : IsSized (nodes_at m) w → IsSized (nodes_at n) v
  pub known : (f : InFlight) → IsKnown m f → IsKnown n f
  pub loses : (x : Place) (p : ℕ) → In p (w.chain x) → In p (v.chain x) ⊎ (((d : Node) × (nodes_at n p ≡ Some d) × (d.merging ≡ true)) ⊎ (nodes_at n p ≡ None))
  pub last : PagesLast m n

-- the call changes its tree as its answer on the contents before says, by whatever operator, and no other tree's contents change
pub record WrittenAt (j : Job) (m : Snapshot) (w : Forest) (n : Snapshot) : Type 0 where
  pub after : Forest
  pub keeps : Keeps m w n after
  pub here : (operator : Option Merge) → contents (nodes_at n) after j.tree.name ≡ (answer_of operator j.call (contents (nodes_at m) w j.tree.name)).map
  pub others : (t : Tree) → t ≢ j.tree.name → contents (nodes_at n) after t ≡ contents (nodes_at m) w t

-- no tree's contents change
pub record KeepsMapsAt (m : Snapshot) (w : Forest) (n : Snapshot) : Type 0 where
  pub after : Forest
  pub keeps : Keeps m w n after
  pub same : (t : Tree) → contents (nodes_at n) after t ≡ contents (nodes_at m) w t

-- One write is made, at every forest in which the call's tree has its number, by the steps of the call from its begin
pub record MakesWrite (j : Job) (old new : Store) : Type 0 where
  pub acts : ActsOften old new
  pub steps : (numbers : Tree → Option ℕ) (given : ℕ → Bool) (w : Forest) → HasForest (snapshot_of old numbers given) w → numbers j.tree.name ≡ Some j.tree.number → WriteSteps old (fresh_call j) new
  pub told : (numbers : Tree → Option ℕ) (given : ℕ → Bool) (w : Forest) → HasForest (snapshot_of old numbers given) w → numbers j.tree.name ≡ Some j.tree.number
      → WrittenAt j (snapshot_of old numbers given) w (snapshot_of new numbers given)

-- a write from the root is refused for want of memory before its first step, or by its steps
abbrev pub stops_from_root : Job → Store → Store → Error → Type 0
stops_from_root j old new e = ((e ≡ NoMemory) × (new ≡ old)) ⊎ RefusedSteps old (fresh_call j) new e

-- .. or it is refused, after which nothing more is done, and has written nothing. Its turns are used up only if there was something to
-- repair on the way to its key, or if the way has so many levels
pub record StopsWriting (j : Job) (old new : Store) (e : Error) : Type 0 where
  pub last : Store
  pub acts : ActsOften old last
  pub refused : is_write_refused_as e last new
  pub stops : (numbers : Tree → Option ℕ) (given : ℕ → Bool) (w : Forest) → HasForest (snapshot_of old numbers given) w → numbers j.tree.name ≡ Some j.tree.number → stops_from_root j old new e
  pub turns : TellsTurns e → (path : List ℕ) → IsClean (now old) j.tree.name (Included (key_of j.call)) path → turns_limit ≤ length path
  pub told : (numbers : Tree → Option ℕ) (given : ℕ → Bool) (w : Forest) → HasForest (snapshot_of old numbers given) w → numbers j.tree.name ≡ Some j.tree.number
      → KeepsMapsAt (snapshot_of old numbers given) w (snapshot_of new numbers given)

-- a group is open, and what a crash may leave is as before it began
pub record IsInside (old new : Store) : Type 0 where
  pub inside : (now new).in_group ≡ true
  pub adds : AddsCrashStates [] old new

-- While a group is open nothing is added to what a crash may leave,
abbrev pub OpenGroupLaw : Type 0
OpenGroupLaw = (a b c : Store) → b ≡ after_action GroupBegins a → ActsOften b c → IsInside a c

-- even if a write of it is refused,
abbrev pub RefusedGroupLaw : Type 0
RefusedGroupLaw = (a b c d : Store) (e : Error) → b ≡ after_action GroupBegins a → ActsOften b c → is_write_refused_as e c d → IsInside a d

-- and its end adds the trees that it leaves, and no others
abbrev pub SealedGroupLaw : Type 0
SealedGroupLaw = (a b c d : Store) → b ≡ after_action GroupBegins a → ActsOften b c → d ≡ after_action GroupEnds c → IsValid (now d) → AddsCrashStates (trees_of (now d) ∷ []) a d

-- The begin and the end of a group change no page
abbrev pub GroupBoundsLaw : Type 0
GroupBoundsLaw = (a b : Store) → (b ≡ after_action GroupBegins a) ⊎ (b ≡ after_action GroupEnds a)
    → (numbers : Tree → Option ℕ) (given : ℕ → Bool) (w : Forest) → HasForest (snapshot_of a numbers given) w → KeepsMapsAt (snapshot_of a numbers given) w (snapshot_of b numbers given)
