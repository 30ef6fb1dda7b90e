-- What a flush makes of the files of a store, against the store.
use Rattle.std.proofs.Common.{◌≡◌, inl, inr, arith, ℕ, List, [], ◌∷◌, refl, sym, ◌∙◌, ap, subst}
use Rattle.std.specs.Prelude.{Option, Some, None, false}
use Rattle.std.proofs.lemmas.List.Elements.{All-nil}
use Rattle.sled_store.specs.In.{In}
use Rattle.sled_store.specs.State.{State, Action, after_all}
use Rattle.sled_store.specs.Store.{Store, now}
use Rattle.sled_store.specs.Crash.{crash_states}
use Rattle.sled_store.specs.theory.Facts.{may_leave_base}
use Rattle.sled_bytes.specs.declared.change.Change.{Change}
use Rattle.sled_bytes.specs.Spelling.{FitsChange}
use Rattle.sled_files.specs.Change.{Durable, action_of, acted, changed, changed_all, with_action, actions_of, IsWithin, AreOfStore, AreAdded}
use Rattle.sled_files.specs.Lasting.{IsRight, HasLimits, AreLimits, Limits}
use Rattle.sled_files.specs.Pending.{IsPending}
use Rattle.sled_files.specs.Laws.{FlushLasts, FlushEnds}
use Rattle.sled_files.proofs.Crashing.{last_left}
use Rattle.sled_files.proofs.OfStore.{all_higher}

pub acted_first : (o : Option Action) (rest : List Action) (s : State) → after_all rest (acted o s) ≡ after_all (with_action o rest) s
acted_first (Some a) rest s = refl
acted_first None rest s = refl

-- changes make of a state what their actions make
pub state_changed : (changes : List Change) (d : Durable) → (changed_all changes d).state ≡ after_all (actions_of changes d.state) d.state
state_changed [] d = refl
state_changed (c ∷ changes) d = state_changed changes (changed c d) ∙ acted_first (action_of c d.state) (actions_of changes (acted (action_of c d.state) d.state)) d.state

pub has_limits : {limits : Limits} {d : Durable} → AreLimits limits d → HasLimits limits d
has_limits l = record { pids = omega (arith, l.pids); versions = omega (arith, l.versions); pids_most = omega (arith, l.pids); versions_most = omega (arith, l.versions) }

module _ {limits : Limits} {s : Store} {d : Durable} {bytes : List ℕ} (p : IsPending limits s d bytes) where
  -- what the changes that are pending make is the state now
  pub now_is : (changed_all p.changes d).state ≡ now s
  now_is = state_changed p.changes d ∙ ap (λ (x : State). after_all (actions_of p.changes x) x) p.base ∙ ap (λ (l : List Action). after_all l s.base) p.acts

  mark_then : (changed_all p.changes d).mark ≡ s.mark
  mark_then = ap (λ a. a.0) (p.aside d) ∙ p.mark

  limited_then : AreLimits limits (changed_all p.changes d)
  limited_then = record { pids = ap (λ a. a.1) (p.aside d) ∙ p.limited.pids; versions = ap (λ a. a.2) (p.aside d) ∙ p.limited.versions }

  -- what is pending is added by a flush
  pub added_pending : {olds : List Change} → AreOfStore olds d → (now s).in_group ≡ false → AreAdded p.changes d
  added_pending {olds} old out =
      let e = changed_all p.changes d in
      let pids : e.pids ≡ d.pids = ap (λ a. a.1) (p.aside d) in
      let versions : e.versions ≡ d.versions = ap (λ a. a.2) (p.aside d) in
      record {
        of_store = record {
          within = all_higher d e (omega (arith, pids)) (omega (arith, versions)) p.changes p.within;
          fits = omega (arith, versions, old.fits);
          sealed = ap (λ (x : State). x.in_group) now_is ∙ out;
        };
        pids = omega (arith, pids);
        versions = omega (arith, versions);
      }

  -- what the files stand for is right for the store, and so is what they stand for once all is added that is pending
  pub right_before : {asked : List ℕ} → s.base.in_group ≡ false → IsRight asked limits s d
  right_before sealed = record {
    state = record { is = subst (λ (x : State). In x (crash_states s)) (sym p.base) (may_leave_base s sealed).is };
    mark = inl p.mark;
    no_lower = omega (arith, p.mark);
    limited = has_limits p.limited;
  }

  pub right_after : {asked : List ℕ} → (now s).in_group ≡ false → IsRight asked limits s (changed_all p.changes d)
  right_after out = record {
    state = record { is = subst (λ (x : State). In x (crash_states s)) (sym now_is) (last_left s.base s.recent out) };
    mark = inl mark_then;
    no_lower = omega (arith, mark_then);
    limited = has_limits limited_then;
  }

pub flush_lasts : FlushLasts
flush_lasts limits s d bytes p sealed out first second (inl are) = record { durable = d; stands = are; right = right_before p sealed }
flush_lasts limits s d bytes p sealed out first second (inr are) = record { durable = changed_all p.changes d; stands = are; right = right_after p out }

pub flush_ends : FlushEnds
flush_ends limits s d bytes p = record {
  base = now_is p;
  mark = mark_then p;
  limited = limited_then p;
  changes = [];
  spells = record { fit = All-nil FitsChange; spelled = refl };
  within = All-nil (IsWithin (changed_all p.changes d));
  acts = refl;
  aside = λ whole. refl;
}
