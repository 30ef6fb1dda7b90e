-- What two files are opened to.
use Rattle.std.specs.Prelude.{◌≡◌, ◌⊎◌, ℕ, List, []}
use Rattle.sled_pages.specs.Memory.{store_of, calls_refused, empty_store}
use Rattle.sled_files.specs.declared.replay.Made.{Made}
use Rattle.sled_files.specs.Change.{Durable, nothing_yet}
use Rattle.sled_files.specs.Standing.{AreFor, AreBlank}
use Rattle.sled_files.specs.Files.{Files, IsReady, GrowsTo}
use Rattle.sled_files.specs.Opening.{IsReopened}

-- the store that the files stand for, and for nothing else
pub record OpensStore {D : Type 0} (seen : D → List ℕ) (may_leave : D → List ℕ → Type 0) (first second : List ℕ) (f : Files D) (store : Made) : Type 0 where
  pub durable : Durable
  pub stand : AreFor first second durable
  pub alone : (d : Durable) → AreFor first second d → d ≡ durable
  pub ready : IsReady seen may_leave f durable
  pub first_stays : seen f.first ≡ first
  pub second_stays : seen f.second ≡ second
  pub reopened : IsReopened durable (store_of store.pages)
  pub pids : store.pids ≡ durable.pids
  pub versions : store.versions ≡ durable.versions
  pub named : calls_refused store.pages ≡ []

-- a new store; both files were blank
pub record OpensNew {D : Type 0} (seen : D → List ℕ) (may_leave : D → List ℕ → Type 0) (first second : List ℕ) (f : Files D) (store : Made) : Type 0 where
  pub blanks : AreBlank first second
  pub ready : IsReady seen may_leave f nothing_yet
  pub grown : GrowsTo f.gate first (seen f.first)
  pub second_stays : seen f.second ≡ second
  pub empty : store_of store.pages ≡ empty_store
  pub pids : store.pids ≡ 0
  pub versions : store.versions ≡ 0

abbrev pub Opens : {D : Type 0} → (D → List ℕ) → (D → List ℕ → Type 0) → List ℕ → List ℕ → Files D → Made → Type 0
Opens seen may_leave first second f store = OpensStore seen may_leave first second f store ⊎ OpensNew seen may_leave first second f store
