-- Of the steps of a disk that holds blocks back, for proofs.
use Rattle.std.specs.Prelude.{◌≤◌, ℕ, List, ◌∷◌, length}
use Rattle.sled_host.specs.Event.{Event}
use Rattle.sled_host.specs.Outcomes.{seen_after_all}
use Rattle.sled_once.specs.declared.stage.Stage.{Stage}
use Rattle.sled_once.specs.Stages.{Stands}

-- the same after some calls
pub record IsStanding {D : Type 0} (seen : D → List ℕ) (may_leave : D → List ℕ → Type 0) (stage : Stage) (disk : D) : Type 0 where
  pub calls : List Event
  pub stands : Stands seen may_leave stage disk calls

-- and this place is within what a read returns
pub record HasPlace {D : Type 0} (seen : D → List ℕ) (may_leave : D → List ℕ → Type 0) (at : ℕ) (stage : Stage) (disk : D) : Type 0 where
  pub calls : List Event
  pub stands : Stands seen may_leave stage disk calls
  pub place : at ≤ length (seen_after_all calls)

-- what holds after the same calls before and after
abbrev pub Stays : {D : Type 0} → (D → List ℕ) → (D → List ℕ → Type 0) → Stage → D → Stage → D → Type 0
Stays seen may_leave old disk new later = (calls : List Event) → Stands seen may_leave old disk calls → Stands seen may_leave new later calls

-- and after one call more
abbrev pub GoesOn : {D : Type 0} → (D → List ℕ) → (D → List ℕ → Type 0) → Event → Stage → D → Stage → D → Type 0
GoesOn seen may_leave call old disk new later = (calls : List Event) → Stands seen may_leave old disk calls → Stands seen may_leave new later (call ∷ calls)
