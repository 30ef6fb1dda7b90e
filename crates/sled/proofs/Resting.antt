-- Stores that differ in the count of faults alone, or show the same now.
use Rattle.std.proofs.Common.{◌≡◌, ℕ, ◌+◌, [], ap, inl, inr}
use Rattle.sled_store.specs.State.{after_all}
use Rattle.sled_store.specs.Store.{Store, now, after_flush, only_faults}
use Rattle.sled_store.specs.Crash.{crash_states}
use Rattle.sled_nodes.specs.declared.error.Error.{Error}
use Rattle.sled_nodes.specs.declared.error.Error.TheVariants as error
use Rattle.tree_laws.specs.Crashes.{AddsCrashStates}
use Rattle.tree_laws.proofs.Crashing.{extends_nothing, same_left}
use Rattle.sled_tree.specs.theory.StageAction.{is_action_refused_as}
use Rattle.sled.specs.Flights.{IsStepRefused}

-- two stores that show the same now
pub record SameNow (a b : Store) : Type 0 where
  pub now_is : now b ≡ now a
  pub mark : b.mark ≡ a.mark
  pub pids : b.pids ≡ a.pids
  pub versions : b.versions ≡ a.versions

-- all but the faults is as it was
pub record Rests (a b : Store) : Type 0 where
  pub base : b.base ≡ a.base
  pub recent : b.recent ≡ a.recent
  pub actions : b.actions ≡ a.actions
  pub mark : b.mark ≡ a.mark
  pub pids : b.pids ≡ a.pids
  pub versions : b.versions ≡ a.versions

pub rests_same : {a b : Store} → b ≡ a → Rests a b
rests_same e = record { base = ap (λ (s : Store). s.base) e; recent = ap (λ (s : Store). s.recent) e; actions = ap (λ (s : Store). s.actions) e; mark = ap (λ (s : Store). s.mark) e; pids = ap (λ (s : Store). s.pids) e; versions = ap (λ (s : Store). s.versions) e }

pub rests_faulted : {a b : Store} (n : ℕ) → b ≡ record a { faults = n } → Rests a b
rests_faulted n e = record { base = ap (λ (s : Store). s.base) e; recent = ap (λ (s : Store). s.recent) e; actions = ap (λ (s : Store). s.actions) e; mark = ap (λ (s : Store). s.mark) e; pids = ap (λ (s : Store). s.pids) e; versions = ap (λ (s : Store). s.versions) e }

pub rests_only_faults : (e : Error) (a b : Store) → only_faults e a b → Rests a b
rests_only_faults (error.Io fault) a b t = rests_faulted (a.faults + 1) t
rests_only_faults other a b t = rests_same t

pub rests_refused : (e : Error) (a b : Store) → is_action_refused_as e a b → Rests a b
rests_refused error.NoMemory a b t = rests_same t
rests_refused (error.Io fault) a b (inl t) = rests_faulted (a.faults + 1) t
rests_refused (error.Io fault) a b (inr (t, p)) = rests_same t
rests_refused other a b t = absurd t

pub rests_step : (e : Error) (a b : Store) → IsStepRefused e a b → Rests a b
rests_step (error.Io fault) a b (inl t) = rests_faulted (a.faults + 1) t
rests_step (error.Io fault) a b (inr (t, p)) = rests_same t
rests_step other a b t = rests_same t

module _ {a b : Store} (r : Rests a b) where
  pub now_rests : now b ≡ now a
  now_rests = λ i. after_all (r.recent i) (r.base i)

  pub rests_now : SameNow a b
  rests_now = record { now_is = now_rests; mark = r.mark; pids = r.pids; versions = r.versions }

  pub rests_extends : AddsCrashStates [] a b
  rests_extends = extends_nothing a b r.base r.recent r.actions

  pub rests_left : crash_states b ≡ crash_states a
  rests_left = same_left a b r.base r.recent

pub flushed_now : {a b : Store} → b ≡ after_flush a → SameNow a b
flushed_now e = record { now_is = ap now e; mark = ap (λ (s : Store). s.mark) e; pids = ap (λ (s : Store). s.pids) e; versions = ap (λ (s : Store). s.versions) e }
