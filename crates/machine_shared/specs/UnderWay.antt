-- What is known of the scans that are under way.
use Rattle.std.specs.Prelude.{◌≡◌, ◌⊎◌, ◌≤◌, ℕ, Bool, true, not, List, [], Option, Some, None}
use Rattle.std.specs.declared.ops.Bound.{Bound}
use Rattle.sled_nodes.specs.Order.{Key}
use Rattle.sled_store.specs.In.{In}
use Rattle.sled_store.specs.Store.{Store, now}
use Rattle.sled_model.specs.Maps.{Maps}
use Rattle.sled_model.specs.State.{State, NamedTree, CallInFlight, IsOnKey, maps_of}
use Rattle.sled_model.specs.Transition.{Configuration, Transition}
use Rattle.sled_model.specs.declared.call.Call.TheVariants.{Scan}
use Rattle.sled_model.specs.declared.tree.Tree.{Tree}
use Rattle.sled_model.specs.declared.outcome.Step.{Step}
use Rattle.sled_model.specs.declared.outcome.Step.TheVariants as step
use Rattle.sled_model.specs.declared.outcome.Outcome.{Outcome}
use Rattle.sled_model.specs.declared.outcome.Outcome.TheVariants.{Begun}
use Rattle.scan_laws.specs.Scanned.{Ascend, RunsBeside, NoSteps, OneMore, OneBeside, AtOwnSteps, yielded}
use Rattle.machine_alone.specs.Values.{MachineValue, slots_of}
use Rattle.machine_shared.specs.Moments.{AtOneMoment}
use Rattle.machine_shared.specs.Scanned.{AreOfScans, AreScanned, gave_in}
use Rattle.machine_shared.specs.Scans.{ScansValue}
use Rattle.machine_shared.specs.declared.scans.Scanned.TheVariants as did
use Rattle.machine_shared.specs.declared.scans.ScanNote.{ScanNote}

-- it is so throughout the run: before each step and change, and after the last one
abbrev pub Throughout : (State → Type 0) → {a b : Configuration} {steps : List Step} {outcomes : List Outcome} → RunsBeside a steps outcomes b → Type 0
Throughout is (NoSteps {s = s}) = is s.state
Throughout is (OneMore {a = a} one rest) = is a.state × Throughout is rest
Throughout is (OneBeside {a = a} change rest) = is a.state × Throughout is rest

-- the tree of this name has this number
pub record IsNumbered (tree : Tree) (s : State) : Type 0 where
  pub named : NamedTree
  pub there : s.trees tree.name ≡ Some named
  pub same : named.number ≡ tree.number

-- the maps are those of a moment, from the one length of the history to the other
abbrev pub IsOfMoment : List Maps → ℕ → ℕ → State → Type 0
IsOfMoment moments from to s = AtOneMoment moments from to (λ m. maps_of s ≡ m)

-- What was done since a scan began is a run of the model, with changes beside it, up to the calls that are in flight now. In it the scan
-- gave what is noted of its slot, and its maps are those of moments since
pub record IsUnderWay (moments : List Maps) (notes : List ScanNote) (slot from to : ℕ) (tree : Tree) (lo hi : Bound Key) (back : Bool) (slots : ℕ → Option CallInFlight) (slots_given : ℕ) : Type 0 where
  pub before : Configuration
  pub begun : Configuration
  pub now : Configuration
  pub none : List Maps
  pub steps : List Step
  pub outcomes : List Outcome
  pub ascend : Ascend before.state
  pub begins : Transition before (step.Begin tree (Scan lo hi back)) (Begun slot) begun none
  pub run : RunsBeside begun steps outcomes now
  pub gives : yielded slot steps outcomes ≡ gave_in slot notes
  pub slots_are : now.state.slots ≡ slots
  pub given_are : now.state.slots_given ≡ slots_given
  pub its : (f : CallInFlight) → slots slot ≡ Some f → (f.tree ≡ tree) × (f.call ≡ Scan lo hi back)
  pub moments_are : Throughout (IsOfMoment moments from to) run
  pub numbered : AtOwnSteps slot (IsNumbered tree) run

-- a call on a key has nothing to give
pub record IsQuiet (f : CallInFlight) : Type 0 where
  pub key : IsOnKey f.call
  pub waits : f.waiting ≡ []
  pub reads : f.rest ≡ None

-- it is noted that this call began in this slot, on its tree
pub record IsNoted (notes : List ScanNote) (slot : ℕ) (f : CallInFlight) : Type 0 where
  pub note : ScanNote
  pub there : In note notes
  pub here : note.slot ≡ slot
  pub is : note.did ≡ did.Begun f.tree f.call

-- of each scan in flight the begin is noted
abbrev pub AreGoing : (ℕ → Option CallInFlight) → List ScanNote → Type 0
AreGoing slots notes = (slot : ℕ) (f : CallInFlight) → slots slot ≡ Some f → IsNoted notes slot f ⊎ IsQuiet f

-- What is known of the scans that were noted: what they gave; while notes are kept, that those in flight are noted; and while the database
-- is open too, by which steps these gave it
pub record ScansAre (is_open : Bool) (slots : ℕ → Option CallInFlight) (slots_given : ℕ) (moments : List Maps) (to : ℕ) (scans : ScansValue) : Type 0 where
  pub gave : AreScanned moments scans.notes
  pub of_scans : AreOfScans [] scans.notes
  pub going : scans.keeps ≡ true → AreGoing slots scans.notes
  pub bounded : (n : ScanNote) → In n scans.notes → (n.slot ≤ slots_given) × (n.at ≤ to)
  pub under_way : scans.keeps ≡ true → is_open ≡ true → (n : ScanNote) (tree : Tree) (lo hi : Bound Key) (back : Bool) → In n scans.notes → n.did ≡ did.Begun tree (Scan lo hi back)
      → (f : CallInFlight) → slots n.slot ≡ Some f → IsUnderWay moments scans.notes n.slot n.at to tree lo hi back slots slots_given

-- .. in a machine
abbrev pub MachineScans : {P M : Type 0} → (P → Store) → MachineValue P M → List Maps → ℕ → ScansValue → Type 0
MachineScans store m = ScansAre (not (now (store m.db.pages)).in_group) (slots_of m.flights) m.slots_given
