-- A refused opening where there is a default tree does no action.
use Rattle.std.proofs.Common.{◌≡◌, ◌≤◌, inl, inr, Bool, true, List, [], ◌∷◌, ◌++◌, length, Option, Some, None, is_some, option_map, refl, subst, ap, ◌∙◌, arith, append-nil}
use Rattle.std.proofs.lemmas.Bool.{cond-true}
use Rattle.sled_store.specs.In.{In}
use Rattle.sled_store.specs.State.{Action}
use Rattle.sled_store.specs.Store.{Store, now}
use Rattle.sled_store.specs.Crash.{crash_states, left_from}
use Rattle.sled_nodes.specs.declared.error.Error.{Error}
use Rattle.tree_laws.specs.Crashes.{IsCrashConsistent, Trees, AddsCrashStates}
use Rattle.tree_laws.specs.Contents.{trees_of}
use Rattle.sled_model.specs.State.{default_name}
use Rattle.sled.proofs.Opening.{default_is}
use Rattle.sled.specs.Opens.{planted, GrowsAtMost, RefusesOpen}
use Rattle.shell_answers.specs.Store.{IsKept, HasDefault}

nil_of_length : (l : List Action) → length l ≡ 0 → l ≡ []
nil_of_length [] e = refl
nil_of_length (x ∷ xs) e = absurd (omega (arith, e))

-- a crash leaves what it left before, where no action was done
idle_safe : (maps : List Trees) (old new : Store) → AddsCrashStates maps old new → new.actions ≤ old.actions → IsCrashConsistent old → IsCrashConsistent new
idle_safe maps old new x few safe =
    let none : x.added ≡ [] = nil_of_length x.added (omega (arith, x.actions, few)) in
    let recent : new.recent ≡ old.recent = x.recent ∙ (ap (λ l. old.recent ++ l) none ∙ append-nil old.recent) in
    let left : crash_states new ≡ crash_states old = ap (left_from new.base) recent ∙ ap (λ b. left_from b old.recent) x.base in
    record { whole = λ s has. safe.whole s (subst (In s) left has) }

is_some_map : {A B : Type 0} (f : A → B) (o : Option A) → is_some o ≡ true → is_some (option_map f o) ≡ true
is_some_map f None e = e
is_some_map f (Some x) e = refl

module _ (old new : Store) (e : Error) (has : HasDefault old) (r : RefusesOpen old e new) (safe : IsCrashConsistent old) where
  none_planted : planted default_name (trees_of (now old)) ≡ []
  none_planted = cond-true _ _ _ (is_some_map _ ((now old).roots default_name) (subst (λ k. is_some ((now old).roots k) ≡ true) default_is has))

  few : new.actions ≤ old.actions
  few = omega (arith, r.again.fits, ap length none_planted)

  by_growth : GrowsAtMost default_name old new → IsCrashConsistent new
  by_growth (inl x) = idle_safe _ old new x.0 few safe
  by_growth (inr x) = idle_safe _ old new x.0 few safe

  refused_safe : IsCrashConsistent new
  refused_safe = by_growth r.again.grows

-- the pages that a refused opening gives back are well formed
pub refused_can : (crashes : Bool) (old new : Store) (e : Error) → IsKept crashes old → (crashes ≡ true → HasDefault old) → RefusesOpen old e new → IsKept crashes new
refused_can crashes old new e can has r = record { well = r.again.well; safe = λ t. refused_safe old new e (has t) r (can.safe t) }
