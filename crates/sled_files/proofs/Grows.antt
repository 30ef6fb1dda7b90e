-- What is pending of a store, as its actions go on.
use Rattle.std.proofs.Common.{arith, ◌≡◌, inl, inr, ⊎_elim, ℕ, List, [], ◌∷◌, ◌++◌, refl, sym, ◌∙◌, ap, subst}
use Rattle.std.specs.Prelude.{Option, Some, None}
use Rattle.std.specs.List.{flat_map}
use Rattle.std.proofs.lemmas.List.{append-nil}
use Rattle.std.proofs.lemmas.List.Elements.{All-nil, All-push}
use Rattle.std.proofs.lemmas.Grind.{flat_map-append}
use Rattle.sled_store.specs.In.{In}
use Rattle.sled_store.specs.State.{State, Action, after_all}
use Rattle.sled_store.specs.Store.{Store, now}
use Rattle.sled_store.specs.Crash.{left_from}
use Rattle.sled_bytes.specs.declared.change.Change.{Change}
use Rattle.sled_bytes.specs.declared.change.Change.TheVariants.{Given, Linked, Freed, Rooted, Begun, Sealed, Marked, Limited}
use Rattle.sled_bytes.specs.Spelling.{change_bytes, FitsChange}
use Rattle.sled_files.specs.Change.{Durable, action_of, acted, changed, changed_all, with_action, actions_of, IsWithin}
use Rattle.sled_files.specs.Lasting.{IsLasting, Limits}
use Rattle.sled_files.specs.Pending.{IsPending, Spells, aside_of}
use Rattle.sled_files.proofs.Adding.{changed_both}
use Rattle.sled_files.proofs.Flushing.{acted_first}
use Rattle.sled_files.proofs.Crashing.{left_stays}

with_append : (o : Option Action) (front rest : List Action) → with_action o (front ++ rest) ≡ with_action o front ++ rest
with_append (Some a) front rest = refl
with_append None front rest = refl

actions_push : (cs : List Change) (c : Change) (s : State) → actions_of (cs ++ c ∷ []) s ≡ actions_of cs s ++ with_action (action_of c (after_all (actions_of cs s) s)) []
actions_push [] c s = refl
actions_push (d ∷ cs) c s =
    let o = action_of d s in
    let s1 = acted o s in
    ap (λ (l : List Action). with_action o l) (actions_push cs c s1)
    ∙ with_append o (actions_of cs s1) (with_action (action_of c (after_all (actions_of cs s1) s1)) [])
    ∙ ap (λ (x : State). with_action o (actions_of cs s1) ++ with_action (action_of c x) []) (acted_first o (actions_of cs s1) s)

-- an action of a store sets no mark and no limits aside
keeps_aside : (c : Change) (s : State) (a : Action) (d : Durable) → action_of c s ≡ Some a → aside_of (changed c d) ≡ aside_of d
keeps_aside (Given pid version node) s a d is = refl
keeps_aside (Linked pid version link) s a d is = refl
keeps_aside (Freed pid) s a d is = refl
keeps_aside (Rooted name root) s a d is = refl
keeps_aside Begun s a d is = refl
keeps_aside Sealed s a d is = refl
keeps_aside (Marked upto) s a d is = absurd (cc)
keeps_aside (Limited pids versions) s a d is = absurd (cc)

-- the bytes of one change more
pub spells_more : {bytes : List ℕ} {changes : List Change} → Spells bytes changes → (c : Change) → FitsChange c → Spells (bytes ++ change_bytes c) (changes ++ c ∷ [])
spells_more {bytes} {changes} s c fits = record {
  fit = All-push FitsChange changes c s.fit fits;
  spelled = ap (λ (l : List ℕ). l ++ change_bytes c) s.spelled ∙ sym (flat_map-append change_bytes changes (c ∷ []) ∙ ap (λ (l : List ℕ). flat_map change_bytes changes ++ l) (append-nil (change_bytes c)));
}

-- the bytes of no change, and of one
pub spells_none : Spells [] []
spells_none = record { fit = All-nil FitsChange; spelled = refl }

pub spells_one : (c : Change) → FitsChange c → Spells (change_bytes c) (c ∷ [])
spells_one c fits = spells_more spells_none c fits

module _ {limits : Limits} {s : Store} {d : Durable} {bytes : List ℕ} (p : IsPending limits s d bytes) where
  -- a change that is an action of the store is pending where the store makes that action
  pub pends_more : (later : Store) (c : Change) (a : Action) → FitsChange c → IsWithin d c → action_of c (now s) ≡ Some a → later.base ≡ s.base → later.recent ≡ s.recent ++ a ∷ [] → later.mark ≡ s.mark
      → IsPending limits later d (bytes ++ change_bytes c)
  pends_more later c a fits within is base recent mark = record {
    base = p.base ∙ sym base;
    mark = p.mark ∙ sym mark;
    limited = p.limited;
    changes = p.changes ++ c ∷ [];
    spells = spells_more p.spells c fits;
    within = All-push (IsWithin d) p.changes c p.within within;
    acts = ap (λ (x : State). actions_of (p.changes ++ c ∷ []) x) base
        ∙ actions_push p.changes c s.base
        ∙ ap (λ (l : List Action). l ++ with_action (action_of c (after_all l s.base)) []) p.acts
        ∙ ap (λ (o : Option Action). s.recent ++ with_action o []) is
        ∙ sym recent;
    aside = λ whole. ap aside_of (changed_both p.changes (c ∷ []) whole) ∙ keeps_aside c (now s) a (changed_all p.changes whole) is ∙ p.aside whole;
  }

  -- the same is pending of a store that has the same base, actions and mark
  pub pends_same : (later : Store) → later.base ≡ s.base → later.recent ≡ s.recent → later.mark ≡ s.mark → IsPending limits later d bytes
  pends_same later base recent mark = record {
    base = p.base ∙ sym base;
    mark = p.mark ∙ sym mark;
    limited = p.limited;
    changes = p.changes;
    spells = p.spells;
    within = p.within;
    acts = ap (λ (x : State). actions_of p.changes x) base ∙ p.acts ∙ sym recent;
    aside = p.aside;
  }

-- what may be left stays right for a store that makes one action more
pub lasts_more : {asked : List ℕ} {limits : Limits} {s : Store} {a b : List ℕ} → IsLasting asked limits s a b → (later : Store) (c : Action) → later.base ≡ s.base → later.recent ≡ s.recent ++ c ∷ [] → later.mark ≡ s.mark
    → IsLasting asked limits later a b
lasts_more {asked} {limits} {s} l later c base recent mark = record {
  durable = l.durable;
  stands = l.stands;
  right = record {
    state = record { is = subst (λ (x : State). In l.durable.state (left_from x later.recent)) (sym base) (subst (λ (list : List Action). In l.durable.state (left_from s.base list)) (sym recent) (left_stays l.durable.state s.base s.recent c l.right.state.is)) };
    mark = ⊎_elim (λ is. inl (is ∙ sym mark)) (λ one. inr one) l.right.mark;
    no_lower = omega (arith, mark, l.right.no_lower);
    limited = l.right.limited;
  };
}

-- and for one that has the same base, actions and mark
pub lasts_same : {asked : List ℕ} {limits : Limits} {s : Store} {a b : List ℕ} → IsLasting asked limits s a b → (later : Store) → later.base ≡ s.base → later.recent ≡ s.recent → later.mark ≡ s.mark
    → IsLasting asked limits later a b
lasts_same {asked} {limits} {s} l later base recent mark = record {
  durable = l.durable;
  stands = l.stands;
  right = record {
    state = record { is = subst (λ (x : State). In l.durable.state (left_from x later.recent)) (sym base) (subst (λ (list : List Action). In l.durable.state (left_from s.base list)) (sym recent) l.right.state.is) };
    mark = ⊎_elim (λ is. inl (is ∙ sym mark)) (λ one. inr one) l.right.mark;
    no_lower = omega (arith, mark, l.right.no_lower);
    limited = l.right.limited;
  };
}
