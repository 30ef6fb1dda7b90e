-- What a scan gives over a run, beside which the database may be changed in other ways.
use Rattle.std.specs.Prelude.{◌≡◌, ◌⊎◌, ℕ, nat_eq, Bool, true, false, List, [], ◌∷◌, ◌++◌, Some, if◌then◌else◌}
use Rattle.std.specs.FinMap.Entries.{is_sorted}
use Rattle.std.specs.declared.ops.Bound.{Bound}
use Rattle.sled_nodes.specs.Order.{Key, key_cmp}
use Rattle.sled_nodes.specs.Ranges.{Range, is_in_range}
use Rattle.sled_store.specs.In.{In}
use Rattle.sled_model.specs.Maps.{Map, Maps}
use Rattle.sled_model.specs.State.{State, NamedTree, maps_of}
use Rattle.sled_model.specs.Scan.{Before}
use Rattle.sled_model.specs.Transition.{Configuration, Transition}
use Rattle.sled_model.specs.Runs as alone
use Rattle.sled_model.specs.Runs.{Runs}
use Rattle.sled_model.specs.declared.call.Call.TheVariants.{Scan}
use Rattle.sled_model.specs.declared.tree.Tree.{Tree}
use Rattle.sled_model.specs.declared.reply.Reply.{Reply}
use Rattle.sled_model.specs.declared.outcome.Step.{Step}
use Rattle.sled_model.specs.declared.outcome.Step.TheVariants as step
use Rattle.sled_model.specs.declared.outcome.Outcome.{Outcome}
use Rattle.sled_model.specs.declared.outcome.Outcome.TheVariants.{Begun, Yielded, Decided}

-- the step is one of the call in the slot
abbrev pub is_own : ℕ → Step → Bool
is_own slot (step.Step s) = nat_eq s slot
is_own slot s = false

-- the pair that an outcome gives, if it gives one
abbrev pub given_by : Outcome → List (Key × Key)
given_by (Yielded key value) = (key, value) ∷ []
given_by o = []

-- the pairs that the steps of a slot give, in order
abbrev pub yielded : ℕ → List Step → List Outcome → List (Key × Key)
yielded slot (s ∷ ss) (o ∷ os) = (if is_own slot s then given_by o else []) ++ yielded slot ss os
yielded slot ss os = []

-- the key of each pair comes before the keys of all pairs behind it, in the direction of the scan
abbrev pub InOrder : Bool → List (Key × Key) → Type 0
InOrder back [] = Unit {0}
InOrder back (e ∷ es) = ((f : Key × Key) → In f es → Before back e.0 f.0) × InOrder back es

-- the name of the tree has the tree of its number, and the pair is in the map of that
pub record HasPair (tree : Tree) (e : Key × Key) (s : State) : Type 0 where
  pub named : NamedTree
  pub there : s.trees tree.name ≡ Some named
  pub same : named.number ≡ tree.number
  pub pair : In e named.map

-- the key is in the map of the tree, with some value
abbrev pub HasKey : Tree → Key → State → Type 0
HasKey tree k s = (value : Key) × HasPair tree (k, value) s

-- the pairs of each map rise by key, and no key is in it twice
abbrev pub Ascend : State → Type 0
Ascend s = (name : Key) (map : Map) → maps_of s name ≡ Some map → is_sorted key_cmp map ≡ true

-- A change that is no step: it leaves the calls in flight as they were, and the maps ascend after it
pub record ChangesBeside (old new : Configuration) : Type 0 where
  pub slots : new.state.slots ≡ old.state.slots
  pub slots_given : new.state.slots_given ≡ old.state.slots_given
  pub ascend : Ascend new.state

-- The steps were done in order, each with its outcome, and before, between and after them there may have been changes beside
pub data RunsBeside : Configuration → List Step → List Outcome → Configuration → Type 0 where
  NoSteps : {s : Configuration} → RunsBeside s [] [] s
  OneMore : {a m b : Configuration} {step : Step} {steps : List Step} {outcome : Outcome} {outcomes : List Outcome} {added : List Maps}
      → Transition a step outcome m added → RunsBeside m steps outcomes b → RunsBeside a (step ∷ steps) (outcome ∷ outcomes) b
  OneBeside : {a m b : Configuration} {steps : List Step} {outcomes : List Outcome} → ChangesBeside a m → RunsBeside m steps outcomes b → RunsBeside a steps outcomes b

-- a run with no change beside it
abbrev pub run_alone : {a b : Configuration} {steps : List Step} {outcomes : List Outcome} {maps : List Maps} → Runs a steps outcomes b maps → RunsBeside a steps outcomes b
run_alone alone.NoSteps = NoSteps
run_alone (alone.OneMore one rest) = OneMore one (run_alone rest)

-- it is so at some moment of the run: before some step or change, or after the last one
abbrev pub AtSomeMoment : (State → Type 0) → {a b : Configuration} {steps : List Step} {outcomes : List Outcome} → RunsBeside a steps outcomes b → Type 0
AtSomeMoment is (NoSteps {s = s}) = is s.state
AtSomeMoment is (OneMore {a = a} one rest) = is a.state ⊎ AtSomeMoment is rest
AtSomeMoment is (OneBeside {a = a} change rest) = is a.state ⊎ AtSomeMoment is rest

-- it is so whenever the run comes to a step of the slot
abbrev pub AtOwnSteps : ℕ → (State → Type 0) → {a b : Configuration} {steps : List Step} {outcomes : List Outcome} → RunsBeside a steps outcomes b → Type 0
AtOwnSteps slot is NoSteps = Unit {0}
AtOwnSteps slot is (OneMore {a = a} {step = s} one rest) = (is_own slot s ≡ true → is a.state) × AtOwnSteps slot is rest
AtOwnSteps slot is (OneBeside change rest) = AtOwnSteps slot is rest

-- What a scan in this slot, of these bounds in the tree, gives over a run that follows its begin. Each beginning of such a run is one
-- too, so that what is said of the next step is said of each
pub record IsScanned (slot : ℕ) (tree : Tree) (bounds : Range) {a b : Configuration} {steps : List Step} {outcomes : List Outcome} (run : RunsBeside a steps outcomes b) : Type 0 where
  -- the keys that it gives strictly rise or, backwards, fall; and they are within the bounds
  pub ordered : InOrder bounds.back (yielded slot steps outcomes)
  pub within : (e : Key × Key) → In e (yielded slot steps outcomes) → is_in_range bounds e.0 ≡ true
  -- the pair that the next step gives was in the tree's map at some moment since the begin
  pub seen : (key value : Key) (c : Configuration) (added : List Maps) → Transition b (step.Step slot) (Yielded key value) c added → AtSomeMoment (HasPair tree (key, value)) run
  -- if the next step ends it, it has given each key within the bounds that was in the tree's map at each of its steps
  pub complete : (reply : Reply) (c : Configuration) (added : List Maps) → Transition b (step.Step slot) (Decided reply) c added
      → (key : Key) → is_in_range bounds key ≡ true → AtOwnSteps slot (HasKey tree key) run → (value : Key) × In (key, value) (yielded slot steps outcomes)

-- Every scan gives so over every run, whatever changes there are beside it, if maps ascend as it begins
abbrev pub ScanLaw : Type 0
ScanLaw = (a b c : Configuration) (tree : Tree) (lo hi : Bound Key) (back : Bool) (slot : ℕ) (none : List Maps) (steps : List Step) (outcomes : List Outcome)
    → Ascend a.state → Transition a (step.Begin tree (Scan lo hi back)) (Begun slot) b none → (run : RunsBeside b steps outcomes c)
    → IsScanned slot tree (record { lo = lo; hi = hi; back = back }) run

-- .. and so over every run with none
abbrev pub ScanLawAlone : Type 0
ScanLawAlone = (a b c : Configuration) (tree : Tree) (lo hi : Bound Key) (back : Bool) (slot : ℕ) (none maps : List Maps) (steps : List Step) (outcomes : List Outcome)
    → Transition a (step.Begin tree (Scan lo hi back)) (Begun slot) b none → Ascend a.state → (run : Runs b steps outcomes c maps)
    → IsScanned slot tree (record { lo = lo; hi = hi; back = back }) (run_alone run)
