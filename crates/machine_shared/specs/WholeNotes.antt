-- What a whole call notes, and that it is refused if it cannot be noted.
use Rattle.std.specs.Prelude.{◌≡◌, ◌≢◌, ◌⊎◌, ℕ, zero, suc, List, [], ◌∷◌, ◌++◌, Option, Some, None}
use Rattle.sled_store.specs.Store.{Store}
use Rattle.sled_nodes.specs.declared.error.Error.TheVariants.{NoMemory}
use Rattle.sled_model.specs.Maps.{Merge}
use Rattle.sled_model.specs.State.{State}
use Rattle.sled_model.specs.Refusal.{MustRefuse, ToCall, must_refuse}
use Rattle.sled_model.specs.Transition.{kind_of, InParts}
use Rattle.sled_model.specs.declared.call.Whole.{Whole}
use Rattle.sled_model.specs.declared.call.Whole.TheVariants.{Next, Unsubscribe}
use Rattle.sled_model.specs.declared.outcome.Outcome.{Outcome}
use Rattle.sled_model.specs.declared.outcome.Outcome.TheVariants.{Decided, Refused}
use Rattle.sled_model.specs.declared.outcome.Step.TheVariants as step
use Rattle.sled_model.specs.declared.reply.Reply.{Reply}
use Rattle.sled.specs.Values.{db_state}
use Rattle.machine_alone.specs.Kept.{kept_of_whole, CountsParts}
use Rattle.machine_alone.specs.Step.{MachineStepContract}
use Rattle.machine_alone.specs.Values.{MachineValue}
use Rattle.machine_shared.specs.Wholes.{WholeValue}
use Rattle.machine_shared.specs.Made.{MadeValue, WholeMade, PartsMade, EntryValue, whole_value}
use Rattle.machine_shared.specs.Notes.{entries_of}

-- a call that is decided is noted with the reply that is kept of it, and one that is refused with the parts that it did, if it did any
abbrev pub noted_with : WholeValue → Option (Reply × Reply) → ℕ → List MadeValue
noted_with whole (Some kept) number = WholeMade whole kept.0 ∷ []
noted_with whole None zero = []
noted_with whole None (suc n) = PartsMade whole (suc n) ∷ []

-- What a whole call notes that came out so and did so many parts. Of what a subscriber gets next, which it gets once, `Done` is kept
abbrev pub noted_whole : Whole → Outcome → ℕ → List MadeValue
noted_whole whole o number = noted_with (whole_value whole) (kept_of_whole whole o) number

-- the test that refuses a whole call, if one does. No test is made of a subscriber's
abbrev pub whole_test : State → Whole → Option MustRefuse
whole_test s (Next subscriber) = None
whole_test s (Unsubscribe subscriber) = None
whole_test s whole = must_refuse s (ToCall whole)

module _ {P M : Type 0} (store : P → Store) (flush_number : P → ℕ) (meant : M → Merge) where
  -- a whole call is a step of the machine, and this is noted of it
  pub record DoesWhole (old : MachineValue P M) (whole : Whole) (o : Outcome) (new : MachineValue P M) (noted : List MadeValue) : Type 0 where
    pub step : MachineStepContract store flush_number meant old (step.Whole whole) o new
    pub number : ℕ
    pub counts : CountsParts store meant old.db whole o number new.db
    pub notes : noted ≡ noted_whole whole o number

  -- no test refuses the call, but there is no memory to note it: it is refused, and nothing changes
  pub record CannotNote (old : MachineValue P M) (whole : Whole) (o : Outcome) (new : MachineValue P M) (noted : List MadeValue) : Type 0 where
    pub free : whole_test (db_state store meant old.db) whole ≡ None
    pub refused : o ≡ Refused NoMemory
    pub same : new ≡ old
    pub none : noted ≡ []

  abbrev pub ComesToWhole : MachineValue P M → Whole → Outcome → MachineValue P M → List MadeValue → Type 0
  ComesToWhole old whole o new noted = DoesWhole old whole o new noted ⊎ CannotNote old whole o new noted

  -- .. and the history and the caller's list are longer by what is noted of it
  pub record NotesWhole (old : MachineValue P M) (history : List EntryValue) (n : ℕ) (made : List MadeValue) (whole : Whole) (o : Outcome) (new : MachineValue P M) (longer : List EntryValue) (more : List MadeValue) : Type 0 where
    pub noted : List MadeValue
    pub comes : ComesToWhole old whole o new noted
    pub adds : longer ≡ history ++ entries_of n noted
    pub adds_there : more ≡ made ++ noted

-- a whole call is decided or refused
abbrev pub IsAnswer : Outcome → Type 0
IsAnswer (Decided reply) = Unit {0}
IsAnswer (Refused e) = Unit {0}
IsAnswer o = ⊥

-- A whole call that came out so adds to a list what is noted of it. None but a call that is done in parts did some
pub record AddsWhole (whole : Whole) (o : Outcome) (made more : List MadeValue) : Type 0 where
  pub answers : IsAnswer o
  pub number : ℕ
  pub parts : kind_of whole ≢ InParts → number ≡ 0
  pub adds : more ≡ made ++ noted_whole whole o number
