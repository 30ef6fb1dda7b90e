-- The ids of a run.
use Rattle.std.specs.Prelude.{ℕ, List, ◌++◌}
use Rattle.sled_nodes.specs.Order.{Key}
use Rattle.sled_store.specs.Store.{Store}
use Rattle.sled_store.specs.Crash.{Crashes}
use Rattle.sled_model.specs.Maps.{Merge}
use Rattle.sled_model.specs.declared.outcome.Step.{Step}
use Rattle.sled_model.specs.declared.outcome.Outcome.{Outcome}
use Rattle.sled.specs.Sound.{IsDb}
use Rattle.sled.specs.Opens.{Opens}
use Rattle.sled.specs.Values.{DbValue}
use Rattle.machine_alone.specs.Ids.{ids_of, RiseBetween}
use Rattle.machine_alone.specs.Run.{MachineSteps}
use Rattle.machine_alone.specs.Values.{MachineValue}

-- each of these numbers is above all before it
pub record Rise (ids : List ℕ) : Type 0 where
  pub low : ℕ
  pub high : ℕ
  pub between : RiseBetween low ids high

-- Any number of runs of machines over a store, one after the other, and the ids that they gave, in order. Each run is on the machine that
-- the one before left, or on what an opening made of its pages or of what a crash left of them
pub data Lives {P M : Type 0} (store : P → Store) (flush_number : P → ℕ) (meant : M → Merge) : MachineValue P M → List ℕ → MachineValue P M → Type 0 where
  Runs : {a b : MachineValue P M} {steps : List Step} {outcomes : List Outcome} → MachineSteps store flush_number meant a steps outcomes b → Lives store flush_number meant a (ids_of steps outcomes) b
  RunsAgain : {a b c d : MachineValue P M} {ids : List ℕ} {keep : ℕ} {left : Store} {name : Key} {steps : List Step} {outcomes : List Outcome}
      → Lives store flush_number meant a ids b → IsDb store b.db → Crashes keep (store b.db.pages) left → Opens store left name c.db
      → MachineSteps store flush_number meant c steps outcomes d → Lives store flush_number meant a (ids ++ ids_of steps outcomes) d
  RunsOn : {a b c d : MachineValue P M} {ids : List ℕ} {name : Key} {steps : List Step} {outcomes : List Outcome}
      → Lives store flush_number meant a ids b → IsDb store b.db → Opens store (store b.db.pages) name c.db
      → MachineSteps store flush_number meant c steps outcomes d → Lives store flush_number meant a (ids ++ ids_of steps outcomes) d
  RunsFurther : {a b c : MachineValue P M} {ids : List ℕ} {steps : List Step} {outcomes : List Outcome}
      → Lives store flush_number meant a ids b → MachineSteps store flush_number meant b steps outcomes c → Lives store flush_number meant a (ids ++ ids_of steps outcomes) c
  -- what is no step gives ids too, or none: a transaction, or a call of the database itself
  GivesBeside : {a b : MachineValue P M} {ids : List ℕ} {d : DbValue P M} (more : List ℕ)
      → Lives store flush_number meant a ids b → RiseBetween b.db.greatest_id more d.greatest_id → Lives store flush_number meant a (ids ++ more) (record b { db = d })

-- No id comes twice, over any number of runs, openings and crashes
abbrev pub IdsLaw : {P M : Type 0} → (P → Store) → (P → ℕ) → (M → Merge) → Type 0
IdsLaw {P = P} {M = M} store flush_number meant = (a b : MachineValue P M) (ids : List ℕ) → Lives store flush_number meant a ids b → Rise ids
