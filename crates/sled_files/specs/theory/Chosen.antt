-- Which of two files counts, and the store that is made of it.
use Rattle.std.specs.Prelude.{◌≡◌, ◌⊎◌, ℕ, Bool, List, length, [], Result, Ok, if◌then◌else◌}
use Rattle.sled_bytes.specs.declared.change.Change.{Change}
use Rattle.sled_bytes.specs.declared.refusal.Flaw.{Flaw}
use Rattle.sled_pages.specs.Memory.{store_of, calls_refused}
use Rattle.sled_files.specs.declared.replay.Made.{Made}
use Rattle.sled_files.specs.declared.found.OpenError.{OpenError}
use Rattle.sled_files.specs.declared.found.OpenError.TheVariants.{NoMemory, Decayed}
use Rattle.sled_files.specs.Change.{Durable, nothing_yet, changed_all, AreOfStore}
use Rattle.sled_files.specs.Standing.{AreFor, StandsAt, IsBlank, IsOlder}
use Rattle.sled_files.specs.Opening.{IsReopened}

-- the changes that were read are those of a store, and it is opened
pub record IsMade (read : Result (List Change) Flaw) (store : Made) : Type 0 where
  pub changes : List Change
  pub is : read ≡ Ok changes
  pub made : AreOfStore changes (changed_all changes nothing_yet)
  pub reopened : IsReopened (changed_all changes nothing_yet) (store_of store.pages)
  pub pids : store.pids ≡ (changed_all changes nothing_yet).pids
  pub versions : store.versions ≡ (changed_all changes nothing_yet).versions
  pub named : calls_refused store.pages ≡ []

-- why no store is made of changes that were read, up to a closed gate: for memory, or as they are of none
abbrev pub is_why_unmade : OpenError → ℕ → Result (List Change) Flaw → Type 0
is_why_unmade NoMemory gate read = Unit {0}
is_why_unmade (Decayed place) gate read = (place ≡ gate) × ((changes : List Change) → read ≡ Ok changes → AreOfStore changes (changed_all changes nothing_yet) → ⊥)
is_why_unmade _ gate read = ⊥

-- a file beside the one of this generation that counts
abbrev pub IsBehind : ℕ → List ℕ → Type 0
IsBehind generation bytes = IsBlank bytes ⊎ IsOlder generation bytes

-- The store that two files stand for was opened: which of the two counts, the place of the closed gate of its log, how long its snapshot
-- is, and its generation
pub record IsOpened (first second : List ℕ) (is_second : Bool) (gate snapshot generation : ℕ) (store : Made) : Type 0 where
  pub durable : Durable
  pub stands : StandsAt (if is_second then second else first) gate generation durable
  pub begins : length stands.stands.has.first ≡ snapshot
  pub behind : IsBehind generation (if is_second then first else second)
  pub stand : AreFor first second durable
  pub reopened : IsReopened durable (store_of store.pages)
  pub pids : store.pids ≡ durable.pids
  pub versions : store.versions ≡ durable.versions
  pub named : calls_refused store.pages ≡ []
  -- and they stand for nothing else
  pub alone : (d : Durable) → AreFor first second d → d ≡ durable
