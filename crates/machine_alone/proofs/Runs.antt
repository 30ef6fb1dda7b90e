-- Steps one after the other.
use Rattle.std.proofs.Common.{◌≡◌, ℕ, false, List, [], ◌∷◌, ◌++◌, map, sym, subst, append-nil}
use Rattle.sled_store.specs.Store.{Store, now}
use Rattle.sled_model.specs.Maps.{Maps, Merge}
use Rattle.sled_model.specs.State.{maps_of}
use Rattle.sled_model.specs.Transition.{Transition}
use Rattle.sled_model.specs.Runs.{RunsBy, NoSteps, OneMore}
use Rattle.sled_model.specs.declared.outcome.Outcome.{Outcome}
use Rattle.sled_model.specs.declared.outcome.Step.{Step}
use Rattle.tree_laws.specs.Contents.{trees_of}
use Rattle.tree_laws.specs.Crashes.{StutterEquivalent, AddsCrashStates, Flushes}
use Rattle.tree_laws.proofs.Crashing.{matches_same, matches_append, matches_then, flushes_left}
use Rattle.machine_alone.specs.CrashMaps.{AreCrashMaps, crash_maps_after}
use Rattle.machine_alone.specs.Step.{MachineStep, MachineStepContract}
use Rattle.machine_alone.specs.Run.{RunsWithCrashMaps, KeepsAll, KeepsMore, MachineRun, MakesSteps, NoStep, OneStep, MachineSteps, NoCalls, OneCall}
use Rattle.machine_alone.specs.Values.{MachineValue, configuration_of}

-- what a crash may leave goes on by the maps that were added
pub extended : (added : List Maps) (a b : Store) → AddsCrashStates added a b → (kept : List Maps) → AreCrashMaps a kept → AreCrashMaps b (kept ++ added)
extended added a b e kept l = record { is = matches_then e.grew (matches_append l.is (matches_same added)) }

-- .. and a flush leaves the maps now alone
pub flushed : (a b : Store) → Flushes a b → (now a).in_group ≡ false → AreCrashMaps b (trees_of (now a) ∷ [])
flushed a b f no_group = record { is = subst (λ l. StutterEquivalent (map trees_of l) (trees_of (now a) ∷ [])) (sym (flushes_left f no_group)) (matches_same (trees_of (now a) ∷ [])) }

-- .. and by none where the store is the same
pub leaves_same : (a : Store) (kept : List Maps) → AreCrashMaps a kept → AreCrashMaps a (kept ++ [])
leaves_same a kept l = subst (AreCrashMaps a) (sym (append-nil kept)) l

module _ {P M : Type 0} (store : P → Store) (number : P → ℕ) (meant : M → Merge) where
  -- one more step at the end
  keeps_more : (a m b : MachineValue P M) (s : Step) (o : Outcome) (kept : List Maps) (ss : List Step) (os : List Outcome) (last : List Maps) → RunsWithCrashMaps store number meant a kept ss os m last → (r : MachineStep store number meant m s o b)
      → RunsWithCrashMaps store number meant a kept (ss ++ s ∷ []) (os ++ o ∷ []) b (crash_maps_after s o r.maps (maps_of (configuration_of store number meant b).state) last)
  keeps_more a m b s o kept [] [] last KeepsAll r = KeepsMore r KeepsAll
  keeps_more a m b s o kept (t ∷ ss) (p ∷ os) last (KeepsMore {m = c} q run) r = KeepsMore q (keeps_more c m b s o _ ss os last run r)
  keeps_more a m b s o kept [] (p ∷ os) last run r = elim run [ ]
  keeps_more a m b s o kept (t ∷ ss) [] last run r = elim run [ ]

  pub reaches_more : (a m b : MachineValue P M) (ss : List Step) (os : List Outcome) (s : Step) (o : Outcome) → MachineSteps store number meant a ss os m → MachineStepContract store number meant m s o b → MachineSteps store number meant a (ss ++ s ∷ []) (os ++ o ∷ []) b
  reaches_more a m b [] [] s o NoCalls r = OneCall r NoCalls
  reaches_more a m b (t ∷ ss) (p ∷ os) s o (OneCall {m = c} q run) r = OneCall q (reaches_more c m b ss os s o run r)
  reaches_more a m b [] (p ∷ os) s o run r = elim run [ ]
  reaches_more a m b (t ∷ ss) [] s o run r = elim run [ ]

  -- steps of which all holds are steps
  pub steps_made : (a b : MachineValue P M) (ss : List Step) (os : List Outcome) → MachineSteps store number meant a ss os b → MakesSteps store number meant a ss os b
  steps_made a b [] [] NoCalls = NoStep
  steps_made a b (s ∷ ss) (o ∷ os) (OneCall {m = m} one rest) = OneStep one.step (steps_made m b ss os rest)
  steps_made a b [] (o ∷ os) run = elim run [ ]
  steps_made a b (s ∷ ss) [] run = elim run [ ]

  pub performs_none : (a : MachineValue P M) → MachineRun store number meant a [] [] a
  performs_none a = record { keeps = λ kept l. record { last = kept; run = KeepsAll; leaves = l } }

  pub performs_more : (a m b : MachineValue P M) (ss : List Step) (os : List Outcome) (s : Step) (o : Outcome) → MachineRun store number meant a ss os m → MachineStepContract store number meant m s o b → MachineRun store number meant a (ss ++ s ∷ []) (os ++ o ∷ []) b
  performs_more a m b ss os s o p r = record {
    keeps = λ kept l.
        let before = p.keeps kept l in record {
          last = crash_maps_after s o r.step.maps (maps_of (configuration_of store number meant b).state) before.last;
          run = keeps_more a m b s o kept ss os before.last before.run r.step;
          leaves = r.step.keeps before.last before.leaves;
        };
  }

  -- the same for a list of steps that is known to be this one
  pub performs_all_none : (a : MachineValue P M) (os : List Outcome) → [] ≡ os → MachineRun store number meant a [] os a × MachineSteps store number meant a [] os a
  performs_all_none a os e = subst (λ z. MachineRun store number meant a [] z a × MachineSteps store number meant a [] z a) e (performs_none a, NoCalls)

  pub performs_all_more : (a m b : MachineValue P M) (ss : List Step) (os : List Outcome) (s : Step) (o : Outcome) (ts : List Step) (us : List Outcome) → ss ++ s ∷ [] ≡ ts → os ++ o ∷ [] ≡ us
      → MachineRun store number meant a ss os m → MachineSteps store number meant a ss os m → MachineStepContract store number meant m s o b → MachineRun store number meant a ts us b × MachineSteps store number meant a ts us b
  performs_all_more a m b ss os s o ts us e f p all r =
      subst (λ z. MachineRun store number meant a z us b × MachineSteps store number meant a z us b) e
      (subst (λ z. MachineRun store number meant a (ss ++ s ∷ []) z b × MachineSteps store number meant a (ss ++ s ∷ []) z b) f
      (performs_more a m b ss os s o p r, reaches_more a m b ss os s o all r))

  -- one more step at the front
  pub performs_first : (a m b : MachineValue P M) (s : Step) (o : Outcome) (ss : List Step) (os : List Outcome) → MachineStepContract store number meant a s o m → MachineRun store number meant m ss os b → MachineRun store number meant a (s ∷ ss) (o ∷ os) b
  performs_first a m b s o ss os r p = record {
    keeps = λ kept l.
        let later = p.keeps (crash_maps_after s o r.step.maps (maps_of (configuration_of store number meant m).state) kept) (r.step.keeps kept l) in record {
          last = later.last;
          run = KeepsMore r.step later.run;
          leaves = later.leaves;
        };
  }

  -- a run is a run of the model
  pub model_run : (a b : MachineValue P M) (kept : List Maps) (ss : List Step) (os : List Outcome) (last : List Maps) → RunsWithCrashMaps store number meant a kept ss os b last
      → (maps : List Maps) × RunsBy Transition (configuration_of store number meant a) ss os (configuration_of store number meant b) maps
  model_run a b kept [] [] last KeepsAll = ([], NoSteps)
  model_run a b kept (s ∷ ss) (o ∷ os) last (KeepsMore {m = m} one run) = let rest = model_run m b _ ss os last run in (one.maps ++ rest.0, OneMore one.step rest.1)
  model_run a b kept [] (o ∷ os) last run = elim run [ ]
  model_run a b kept (s ∷ ss) [] last run = elim run [ ]
