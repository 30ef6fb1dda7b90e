-- No id comes twice: over the steps of a machine, and after a crash.
use Rattle.std.proofs.Common.{◌≡◌, ℕ, ◌≤◌, List, [], ◌++◌, ap, arith}
use Rattle.sled_store.specs.Store.{Store}
use Rattle.sled_store.specs.Crash.{Crashes}
use Rattle.sled_model.specs.Maps.{Merge}
use Rattle.sled_model.specs.declared.outcome.Step.{Step}
use Rattle.sled_model.specs.declared.outcome.Outcome.{Outcome}
use Rattle.machine_alone.specs.Ids.{ids_of, RiseBetween}
use Rattle.machine_alone.specs.Run.{MachineSteps}
use Rattle.machine_alone.specs.Values.{MachineValue}
use Rattle.machine_alone.proofs.Rising.{rise_on, run_rises}
use Rattle.example_machines.specs.Ids.{Rise, Lives, Runs, RunsAgain, RunsOn, RunsFurther, GivesBeside, IdsLaw}

module _ {P M : Type 0} (store : P → Store) (number : P → ℕ) (meant : M → Merge) where
  -- a run, and another on what was opened after it, where the ids that were set aside count as given
  pub runs_rise : (a b c d : MachineValue P M) (ss ts : List Step) (os ps : List Outcome) → MachineSteps store number meant a ss os b → b.db.greatest_id ≤ c.db.greatest_id → MachineSteps store number meant c ts ps d → Rise (ids_of ss os ++ ids_of ts ps)
  runs_rise a b c d ss ts os ps first over second = record {
    low = a.db.greatest_id;
    high = d.db.greatest_id;
    between = rise_on a.db.greatest_id b.db.greatest_id d.db.greatest_id (ids_of ss os) (ids_of ts ps) (run_rises store number meant a b ss os first)
        (rise_on b.db.greatest_id c.db.greatest_id d.db.greatest_id [] (ids_of ts ps) over (run_rises store number meant c d ts ps second));
  }

-- a crash keeps the mark, and what is opened counts the ids up to it as given
pub kept_over : (keep g h : ℕ) (s left : Store) → g ≤ s.mark → Crashes keep s left → h ≡ left.mark → g ≤ h
kept_over keep g h s left below crash opens = same (ap (λ (z : Store). z.mark) crash.is)
  where
    same : left.mark ≡ s.mark → g ≤ h
    same e = omega arith

-- an opening counts the ids up to the mark as given
counted : (g m h : ℕ) → g ≤ m → h ≡ m → g ≤ h
counted g m h below is = omega arith

module _ {P M : Type 0} (store : P → Store) (number : P → ℕ) (meant : M → Merge) where
  lives_rise : {a b : MachineValue P M} {ids : List ℕ} → Lives store number meant a ids b → RiseBetween a.db.greatest_id ids b.db.greatest_id
  lives_rise (Runs {a = a} {b = b} {steps = ss} {outcomes = os} run) = run_rises store number meant a b ss os run
  lives_rise (RunsAgain {a = a} {b = b} {c = c} {d = d} {ids = ids} {keep = keep} {left = left} {steps = ss} {outcomes = os} before db crash opens run) =
      rise_on a.db.greatest_id b.db.greatest_id d.db.greatest_id ids (ids_of ss os) (lives_rise before)
      (rise_on b.db.greatest_id c.db.greatest_id d.db.greatest_id [] (ids_of ss os) (kept_over keep b.db.greatest_id c.db.greatest_id (store b.db.pages) left db.ids crash opens.ids) (run_rises store number meant c d ss os run))
  lives_rise (RunsOn {a = a} {b = b} {c = c} {d = d} {ids = ids} {steps = ss} {outcomes = os} before db opens run) =
      rise_on a.db.greatest_id b.db.greatest_id d.db.greatest_id ids (ids_of ss os) (lives_rise before)
      (rise_on b.db.greatest_id c.db.greatest_id d.db.greatest_id [] (ids_of ss os) (counted b.db.greatest_id (store b.db.pages).mark c.db.greatest_id db.ids opens.ids) (run_rises store number meant c d ss os run))
  lives_rise (RunsFurther {a = a} {b = b} {c = c} {ids = ids} {steps = ss} {outcomes = os} before run) =
      rise_on a.db.greatest_id b.db.greatest_id c.db.greatest_id ids (ids_of ss os) (lives_rise before) (run_rises store number meant b c ss os run)
  lives_rise (GivesBeside {a = a} {b = b} {ids = ids} {d = d} more before given) = rise_on a.db.greatest_id b.db.greatest_id d.greatest_id ids more (lives_rise before) given

  -- no id comes twice
  pub ids_rise : IdsLaw store number meant
  ids_rise a b ids lives = record { low = a.db.greatest_id; high = b.db.greatest_id; between = lives_rise lives }
