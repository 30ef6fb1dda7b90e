-- What a crash leaves of a run.
use Rattle.std.specs.Prelude.{◌≡◌, ℕ, List, [], ◌∷◌}
use Rattle.sled_store.specs.In.{In}
use Rattle.sled_nodes.specs.Order.{Key}
use Rattle.sled_store.specs.Store.{Store, now}
use Rattle.sled_store.specs.Crash.{Crashes}
use Rattle.sled_pages.specs.Memory.{store_of, flush_number_of}
use Rattle.sled_pages.specs.declared.memory.MemPages.{MemPages}
use Rattle.sled_model.specs.Maps.{Merge}
use Rattle.sled_model.specs.declared.outcome.Step.{Step}
use Rattle.sled_model.specs.declared.outcome.Outcome.{Outcome}
use Rattle.tree_laws.specs.Contents.{trees_of}
use Rattle.sled.specs.Opens.{with_default, Opens}
use Rattle.sled.specs.Values.{DbValue}
use Rattle.machine_alone.specs.Run.{KeepsCrashMaps, MachineSteps}
use Rattle.machine_alone.specs.Values.{MachineValue}

-- a machine over this database, on which no call is in flight
abbrev pub machine_over : {P M : Type 0} → DbValue P M → MachineValue P M
machine_over d = record { db = d; flights = []; slots_given = 0 }

-- A merge operator is seen here by what it means.
-- A database was opened, the steps were run on a machine over it, its store crashed and kept so many of the last actions, and what was
-- left of it was opened again. The run keeps a list of maps: at first that of the opening, then the one at the last flush, and the one
-- after each call that was decided since. What is found is one of the list
pub record Survives (before : Store) (name : Key) (steps : List Step) (outcomes : List Outcome) (keep : ℕ) (found : Store) : Type 0 where
  pub first : DbValue MemPages Merge
  pub opens : Opens store_of before name first
  pub last : MachineValue MemPages Merge
  pub runs : KeepsCrashMaps store_of flush_number_of (λ m. m) (machine_over first) steps outcomes last (trees_of (now (store_of first.pages)) ∷ [])
  pub left : Store
  pub crashes : Crashes keep (store_of last.db.pages) left
  pub one : In (trees_of (now left)) runs.last
  pub again : DbValue MemPages Merge
  pub reopens : Opens store_of left name again
  pub is : found ≡ store_of again.pages
  pub maps : trees_of (now found) ≡ with_default (trees_of (now left))

-- .. and of each step all holds that is said of one step
pub record SurvivesEach (before : Store) (name : Key) (steps : List Step) (outcomes : List Outcome) (keep : ℕ) (found : Store) : Type 0 where
  pub survives : Survives before name steps outcomes keep found
  pub each : MachineSteps store_of flush_number_of (λ m. m) (machine_over survives.first) steps outcomes survives.last
