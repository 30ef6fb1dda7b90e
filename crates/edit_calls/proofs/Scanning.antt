-- What the end of a scan tells: what was given, and of the rest that it was absent throughout where nothing was decided meanwhile.
use Rattle.std.proofs.Common.{◌≡◌, ℕ, Bool, true, List, Option, refl, sym, ap, ◌∙◌, subst}
use Rattle.sled_nodes.proofs.Basics.{false_true}
use Rattle.sled_nodes.specs.Order.{Key}
use Rattle.sled_store.specs.Store.{Store}
use Rattle.sled_model.specs.Maps.{Maps, Merge}
use Rattle.sled_model.specs.State.{State, NamedTree}
use Rattle.sled_model.specs.Transition.{Configuration, Transition, transition_as}
use Rattle.sled_model.specs.declared.tree.Tree.{Tree}
use Rattle.sled_model.specs.declared.outcome.Step.{Step}
use Rattle.sled_model.specs.declared.outcome.Step.TheVariants as step
use Rattle.sled_model.specs.declared.outcome.Outcome.{Outcome}
use Rattle.sled_model.specs.declared.outcome.Outcome.TheVariants.{Moved, Yielded}
use Rattle.scan_laws.specs.Scanned.{HasKey, RunsBeside, NoSteps, OneMore, OneBeside, AtOwnSteps}
use Rattle.machine_alone.specs.Run.{MakesSteps, NoStep, OneStep}
use Rattle.machine_alone.specs.Scans.{Scans, run_of, steps_alone}
use Rattle.machine_alone.specs.Step.{MachineStep}
use Rattle.machine_alone.specs.Values.{MachineValue, configuration_of}
use Rattle.edit_calls.specs.Scans.{AtEachMoment, goes_on, IsQuiet, run_since, TellsOfEnd, TellsOfAbsence}

abbrev Trees : Type 0
Trees = Key → Option NamedTree

-- a step that goes on leaves the trees
leaves : (a b : Configuration) (s : Step) (o : Outcome) (maps : List Maps) → goes_on o ≡ true → transition_as a s o b maps → b.state.trees ≡ a.state.trees
leaves a b (step.Step slot) Moved maps q t = ap (λ (s : State). s.trees) t.0.is
leaves a b (step.Step slot) (Yielded key value) maps q t = ap (λ (s : State). s.trees) t.0.is
leaves a b (step.Begin tree call) Moved maps q t = absurd t
leaves a b (step.Begin tree call) (Yielded key value) maps q t = absurd t
leaves a b (step.Abandon slot) Moved maps q t = absurd t
leaves a b (step.Abandon slot) (Yielded key value) maps q t = absurd t
leaves a b (step.Whole whole) Moved maps q t = absurd t
leaves a b (step.Whole whole) (Yielded key value) maps q t = absurd t
leaves a b s other maps q t = false_true q

-- what is so at each moment is so at the scan's own steps
own : (is : State → Type 0) (slot : ℕ) {a b : Configuration} {steps : List Step} {outcomes : List Outcome} (run : RunsBeside a steps outcomes b) → AtEachMoment is run → AtOwnSteps slot is run
own is slot NoSteps h = tt
own is slot (OneMore one rest) h = ((λ e. h.0), own is slot rest h.1)
own is slot (OneBeside change rest) h = own is slot rest h.1

each : (is to : State → Type 0) → ((s : State) → is s → to s) → {a b : Configuration} {steps : List Step} {outcomes : List Outcome} (run : RunsBeside a steps outcomes b) → AtEachMoment is run → AtEachMoment to run
each is to f NoSteps h = f _ h
each is to f (OneMore one rest) h = (f _ h.0, each is to f rest h.1)
each is to f (OneBeside change rest) h = (f _ h.0, each is to f rest h.1)

there_too : (tree : Tree) (key : Key) (s t : State) → s.trees ≡ t.trees → HasKey tree key s → HasKey tree key t
there_too tree key s t e had = (had.0, record { named = had.1.named; there = sym (ap (λ (trees : Trees). trees tree.name) e) ∙ had.1.there; same = had.1.same; pair = had.1.pair })

-- over trees that stay, a key that is not at each own step is at no moment
never : (tree : Tree) (key : Key) (slot : ℕ) (trees : Trees) {a b : Configuration} {steps : List Step} {outcomes : List Outcome} (run : RunsBeside a steps outcomes b)
    → AtEachMoment (λ s. s.trees ≡ trees) run → (AtOwnSteps slot (HasKey tree key) run → ⊥) → AtEachMoment (λ s. HasKey tree key s → ⊥) run
never tree key slot trees run same none =
    each (λ s. s.trees ≡ trees) (λ s. HasKey tree key s → ⊥) (λ s e had. none (own (HasKey tree key) slot run (each (λ t. t.trees ≡ trees) (HasKey tree key) (λ t f. there_too tree key s t (e ∙ sym f) had) run same))) run same

module _ {P M : Type 0} (store : P → Store) (flush_number : P → ℕ) (meant : M → Merge) where
  -- steps that go on leave the trees
  stay : (trees : Trees) {a b : MachineValue P M} {steps : List Step} {outcomes : List Outcome} (made : MakesSteps store flush_number meant a steps outcomes b) → IsQuiet outcomes
      → (configuration_of store flush_number meant a).state.trees ≡ trees → AtEachMoment (λ s. s.trees ≡ trees) (run_of store flush_number meant (steps_alone store flush_number meant made))
  stay trees NoStep q e = e
  stay trees (OneStep {a = a} {m = m} {step = s} {outcome = o} one rest) q e =
      (e, stay trees rest q.1 (leaves (configuration_of store flush_number meant a) (configuration_of store flush_number meant m) s o one.maps q.0 one.step.is ∙ e))

module _ {P M : Type 0} (store : P → Store) (flush_number : P → ℕ) (meant : M → Merge) (slot : ℕ) (old : MachineValue P M) (o : Outcome) where
  pub tells_of_end : (new : MachineValue P M) → Scans store flush_number meant → MachineStep store flush_number meant old (step.Step slot) o new → TellsOfEnd store flush_number meant slot old o
  tells_of_end new law one = record {
    is = λ reply ends since key within there.
        (law.alone since.before since.begun old since.tree since.lo since.hi since.back slot since.steps since.outcomes since.sound since.begins since.made).complete reply (configuration_of store flush_number meant new) one.maps
        (subst (λ o. Transition (configuration_of store flush_number meant old) (step.Step slot) o (configuration_of store flush_number meant new) one.maps) ends one.step) key within there;
  }

  pub tells_of_absence : TellsOfEnd store flush_number meant slot old o → (quiet : Bool) → quiet ≡ true → TellsOfAbsence store flush_number meant slot old o (λ outcomes. quiet ≡ true → IsQuiet outcomes)
  tells_of_absence told quiet e = record {
    is = λ reply ends since quietly key within none.
        let trees = (configuration_of store flush_number meant since.begun).state.trees in
        never since.tree key slot trees (run_since store flush_number meant since) (stay store flush_number meant trees since.made (quietly e) refl) (λ there. let given = told.is reply ends since key within there in none given.0 given.1);
  }
