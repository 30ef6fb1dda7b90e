-- Of Notes, for proofs. A call with copies of it, until they are noted.
use Rattle.std.specs.Prelude.{◌≡◌, ℕ, List, [], ◌++◌, Option, Some, Ok}
use Rattle.sled_store.specs.Store.{Store}
use Rattle.sled_model.specs.Maps.{Merge}
use Rattle.sled_model.specs.declared.call.Call.{Call}
use Rattle.sled_model.specs.declared.tree.Tree.{Tree}
use Rattle.sled_model.specs.declared.outcome.Outcome.{Outcome}
use Rattle.sled_tree.specs.declared.flight.Job.{Job}
use Rattle.machine_shared.specs.Made.{MadeValue}
use Rattle.machine_shared.specs.Notes.{IsEnd, noted_of}
use Rattle.machine_shared.specs.UnderLock.{BeginsCall, EndsUnderLock, UnderLock}
use Rattle.machine_shared.specs.Values.{CallerValue}
use Rattle.machine_shared.specs.declared.called.Stepped.{Stepped}
use Rattle.machine_shared.specs.declared.called.Stepped.TheVariants.{Ended, On}

-- these two are copies of the call
pub record AreCopies (tree : Tree) (call : Call) (jobs : Job × Job) : Type 0 where
  pub first : jobs.0 ≡ record { tree = tree; call = call }
  pub second : jobs.1 ≡ jobs.0

-- a step that ends the call says how; and else the call goes on in its slot, and nothing is noted of it
abbrev pub TakesOn : Outcome → ℕ → Option (Job × Job) → Stepped → Type 0
TakesOn o slot left (Ended e) = (e ≡ o) × IsEnd o
TakesOn o slot left (On s jobs) = (s ≡ slot) × (left ≡ Some jobs) × ((tree : Tree) (call : Call) → noted_of o tree call ≡ [])

-- A step of this call that ends it adds to a list what is noted of it; and else the call goes on with its copies, and nothing is added
abbrev pub AddsStepped : Tree → Call → Stepped → List MadeValue → List MadeValue → Type 0
AddsStepped tree call (Ended o) made more = IsEnd o × (more ≡ made ++ noted_of o tree call)
AddsStepped tree call (On slot jobs) made more = AreCopies tree call jobs × (more ≡ made)

-- .. and a step that ends it was made under the lock
abbrev pub EndsStepped : {P M : Type 0} → (P → Store) → (P → ℕ) → (M → Merge) → Tree → Call → Stepped → CallerValue → CallerValue → Type 0
EndsStepped store flush_number meant tree call (Ended o) me more = EndsUnderLock store flush_number meant tree call o me more
EndsStepped store flush_number meant tree call (On slot jobs) me more = Unit {0}

-- a call that goes on does so in this slot
abbrev pub StaysIn : ℕ → Stepped → Type 0
StaysIn slot (Ended o) = Unit {0}
StaysIn slot (On s jobs) = s ≡ slot

-- .. in which it had begun under the lock
abbrev pub BeganStepped : {P M : Type 0} → (P → Store) → (P → ℕ) → (M → Merge) → Tree → Call → Stepped → Type 0
BeganStepped store flush_number meant tree call (Ended o) = Unit {0}
BeganStepped store flush_number meant tree call (On slot jobs) = UnderLock store (BeginsCall store flush_number meant tree call (Ok slot))
