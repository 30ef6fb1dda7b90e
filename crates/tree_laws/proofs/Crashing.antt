-- What an action adds to the states that a crash may leave.
use Rattle.std.proofs.Common.{◌≡◌, ℕ, ◌+◌, true, false, cond, List, [], ◌∷◌, ◌++◌, length, map, Some, sym, refl, ap, ◌∙◌, subst, inl, inr, append_assoc, append-nil, length-append, arith}
use Rattle.sled_store.specs.In.{In}
use Rattle.sled_store.specs.State.{State, Action, PageBecomes, after, after_all}
use Rattle.std.proofs.lemmas.List.{map-append}
use Rattle.sled_store.specs.Store.{Store, now, after_action, after_flush, Allocates}
use Rattle.sled_nodes.specs.declared.node.Node.{Node}
use Rattle.sled_store.specs.Crash.{left_from, crash_states}
use Rattle.sled_store.specs.theory.Facts.{after_last, left_end}
use Rattle.tree_laws.specs.Contents.{trees_of}
use Rattle.tree_laws.specs.Crashes.{IsValid, Stutters, StutterEquivalent, Trees, AddsCrashStates, Flushes}
use Rattle.tree_laws.specs.theory.Crashes.{AddsAction}
use Rattle.tree_laws.specs.theory.CrashLaws.{ExtendsLaw, RestsLaw, DecidesLaw, UnseenLaw, InsideGroupLaw, AgainLaw, ValidLaw, FlushesValidLaw}
use Rattle.tree_laws.proofs.Runs.{In_cases, In-right}

-- the lists that are equal but for repeats

pub repeats_same : {X : Type 0} (xs : List X) → Stutters xs xs
repeats_same [] = tt
repeats_same (x ∷ xs) = (refl, inl (repeats_same xs))

pub repeats_append : {X : Type 0} (a b xs ys : List X) → Stutters a xs → Stutters b ys → Stutters (a ++ b) (xs ++ ys)
repeats_append [] b [] ys r s = s
repeats_append [] b (x ∷ xs) ys r s = absurd r
repeats_append (e ∷ a) b [] ys r s = absurd r
repeats_append (e ∷ a) b (x ∷ xs) ys r s = (r.0, elim r.1 [ inl t ↦ inl (repeats_append a b xs ys t s) | inr t ↦ inr (repeats_append (e ∷ a) b xs ys t s) ])

repeats_then : {X : Type 0} (a b xs : List X) → Stutters a b → Stutters b xs → Stutters a xs
repeats_then [] [] xs r s = s
repeats_then [] (y ∷ b) xs r s = absurd r
repeats_then (e ∷ a) [] xs r s = absurd r
repeats_then (e ∷ a) (y ∷ b) [] r s = absurd s
repeats_then (e ∷ a) (y ∷ b) (x ∷ xs) r s = (
  r.0 ∙ s.0,
  elim s.1 [
    | inl t ↦ elim r.1 [ inl q ↦ inl (repeats_then a b xs q t) | inr q ↦ inr (repeats_then (e ∷ a) b xs q t) ]
    | inr t ↦ inr (repeats_then (e ∷ a) (y ∷ b) xs r t)
  ],
)

-- two lists that one repeats both repeat a third
both : {X : Type 0} (a b ys : List X) → Stutters a ys → Stutters b ys → (m : List X) × Stutters m a × Stutters m b
both [] [] [] r s = ([], tt, tt)
both [] (f ∷ b) [] r s = absurd s
both (e ∷ a) b [] r s = absurd r
both [] b (y ∷ ys) r s = absurd r
both (e ∷ a) [] (y ∷ ys) r s = absurd s
both (e ∷ a) (f ∷ b) (y ∷ ys) r s = elim r.1 [
  | inl t ↦ elim s.1 [
    | inl u ↦ let m = both a b ys t u in (y ∷ m.0, (sym r.0, inl m.1), (sym s.0, inl m.2))
    | inr u ↦ let m = both a (f ∷ b) ys t u in (m.0, longer m.0 m.1 m.2, m.2)
  ]
  | inr t ↦ elim s.1 [
    | inl u ↦ let m = both (e ∷ a) b ys t u in (m.0, m.1, shorter m.0 m.2 m.1)
    | inr u ↦ both (e ∷ a) (f ∷ b) ys t u
  ]
]
  where
    longer : (m : List _) → Stutters m a → Stutters m (f ∷ b) → Stutters m (e ∷ a)
    longer [] p q = absurd q
    longer (c ∷ m) p q = (q.0 ∙ s.0 ∙ sym r.0, inr p)

    shorter : (m : List _) → Stutters m b → Stutters m (e ∷ a) → Stutters m (f ∷ b)
    shorter [] p q = absurd q
    shorter (c ∷ m) p q = (q.0 ∙ r.0 ∙ sym s.0, inr p)

pub matches_same : {X : Type 0} (xs : List X) → StutterEquivalent xs xs
matches_same xs = record { once = xs; left = repeats_same xs; right = repeats_same xs }

pub matches_back : {X : Type 0} {xs ys : List X} → StutterEquivalent xs ys → StutterEquivalent ys xs
matches_back m = record { once = m.once; left = m.right; right = m.left }

pub matches_append : {X : Type 0} {xs ys us vs : List X} → StutterEquivalent xs ys → StutterEquivalent us vs → StutterEquivalent (xs ++ us) (ys ++ vs)
matches_append m k = record { once = m.once ++ k.once; left = repeats_append _ _ _ _ m.left k.left; right = repeats_append _ _ _ _ m.right k.right }

pub matches_then : {X : Type 0} {xs ys zs : List X} → StutterEquivalent xs ys → StutterEquivalent ys zs → StutterEquivalent xs zs
matches_then {ys} m k =
    let b = both m.once k.once ys m.right k.left in
    record { once = b.0; left = repeats_then b.0 m.once _ b.1 m.left; right = repeats_then b.0 k.once _ b.2 k.right }

-- the last element once more
pub matches_again : {X : Type 0} (xs : List X) (x : X) → StutterEquivalent (xs ++ x ∷ []) ((xs ++ x ∷ []) ++ x ∷ [])
matches_again xs x = record {
  once = xs ++ x ∷ [];
  left = repeats_same (xs ++ x ∷ []);
  right = subst (λ z. Stutters (xs ++ x ∷ []) z) (sym (append_assoc xs (x ∷ []) (x ∷ []))) (repeats_append xs (x ∷ []) xs (x ∷ x ∷ []) (repeats_same xs) (refl, inr (refl, inl tt)));
}

-- the states that a crash may leave

-- the state, if no group is open in it
abbrev pub if_sealed : State → List State
if_sealed s = cond s.in_group [] (s ∷ [])

pub left_more : (s : State) (actions : List Action) (a : Action) → left_from s (actions ++ a ∷ []) ≡ left_from s actions ++ if_sealed (after a (after_all actions s))
left_more s [] a = elim s.in_group as (λ b. cond b (if_sealed (after a s)) (s ∷ if_sealed (after a s)) ≡ cond b [] (s ∷ []) ++ if_sealed (after a s)) [ true ↦ refl | false ↦ refl ]
left_more s (c ∷ actions) a =
    let h = left_more (after c s) actions a in
    elim s.in_group as (λ b. cond b (left_from (after c s) (actions ++ a ∷ [])) (s ∷ left_from (after c s) (actions ++ a ∷ [])) ≡ cond b (left_from (after c s) actions) (s ∷ left_from (after c s) actions) ++ if_sealed (after a (after_all actions (after c s)))) [
      | true ↦ h
      | false ↦ ap (λ z. s ∷ z) h
    ]

module _ {act : Action} {a b : Store} (d : AddsAction act a b) where
  pub adds_now : now b ≡ after act (now a)
  adds_now = ap (λ s. after_all b.recent s) d.base ∙ ap (λ l. after_all l a.base) d.recent ∙ after_last a.recent act a.base

  pub adds_left : crash_states b ≡ crash_states a ++ if_sealed (now b)
  adds_left = ap (λ s. left_from s b.recent) d.base ∙ ap (λ l. left_from a.base l) d.recent ∙ left_more a.base a.recent act ∙ ap (λ s. crash_states a ++ if_sealed s) (sym adds_now)

  -- what holds of each state that a crash might leave, and of the state now, holds of each that it may leave now
  pub adds_each : (P : State → Type 0) → ((x : State) → In x (crash_states a) → P x) → ((now b).in_group ≡ false → P (now b)) → (x : State) → In x (crash_states b) → P x
  adds_each P old new x i = elim (In_cases (crash_states a) (if_sealed (now b)) x (subst (λ l. In x l) adds_left i)) [
    | inl j ↦ old x j
    | inr j ↦ elim (now b).in_group as (λ c. (now b).in_group ≡ c → In x (cond c [] (now b ∷ [])) → P x) [
      | true ↦ λ e k. absurd k
      | false ↦ λ e k. elim k [ inl g ↦ subst P (sym g) (new e) | inr g ↦ absurd g ]
    ] refl j
  ]

  adds_count : b.actions ≡ a.actions + length (act ∷ [])
  adds_count = d.actions

  grown : map trees_of (crash_states b) ≡ map trees_of (crash_states a) ++ map trees_of (if_sealed (now b))
  grown = ap (map trees_of) adds_left ∙ map-append trees_of (crash_states a) (if_sealed (now b))

  grown_out : (now b).in_group ≡ false → map trees_of (crash_states b) ≡ map trees_of (crash_states a) ++ trees_of (now b) ∷ []
  grown_out out = grown ∙ ap (λ c. map trees_of (crash_states a) ++ map trees_of (cond c [] (now b ∷ []))) out

  -- an action outside every group adds the trees that it leaves
  pub adds_extends : (now b).in_group ≡ false → IsValid (now b) → AddsCrashStates (trees_of (now b) ∷ []) a b
  adds_extends out well = record {
    base = d.base;
    added = act ∷ [];
    recent = d.recent;
    actions = adds_count;
    grew = subst (λ l. StutterEquivalent l (map trees_of (crash_states a) ++ trees_of (now b) ∷ [])) (sym (grown_out out)) (matches_same _);
    safe = λ s. record { whole = adds_each IsValid s.whole (λ e. well) };
  }

  -- and nothing where they are as before
  pub adds_unseen : (now a).in_group ≡ false → (now b).in_group ≡ false → IsValid (now b) → trees_of (now b) ≡ trees_of (now a) → AddsCrashStates [] a b
  adds_unseen before out well same =
      let last = left_end a.recent a.base before in
      let was : map trees_of (crash_states a) ≡ map trees_of last.0 ++ trees_of (now a) ∷ [] = ap (map trees_of) last.1 ∙ map-append trees_of last.0 (now a ∷ []) in
      let is : map trees_of (crash_states b) ≡ (map trees_of last.0 ++ trees_of (now a) ∷ []) ++ trees_of (now a) ∷ [] = grown_out out ∙ ap (λ z. map trees_of (crash_states a) ++ z ∷ []) same ∙ ap (λ z. z ++ trees_of (now a) ∷ []) was in
      record {
        base = d.base;
        added = act ∷ [];
        recent = d.recent;
        actions = adds_count;
        grew = subst (λ l. StutterEquivalent l (map trees_of (crash_states a) ++ [])) (sym is) (subst (λ l. StutterEquivalent ((map trees_of last.0 ++ trees_of (now a) ∷ []) ++ trees_of (now a) ∷ []) l) (sym (append-nil _ ∙ was)) (matches_back (matches_again _ _)));
        safe = λ s. record { whole = adds_each IsValid s.whole (λ e. well) };
      }

  -- an action inside a group adds no state that a crash may leave
  pub adds_inside : (now b).in_group ≡ true → AddsCrashStates [] a b
  adds_inside inside =
      let same : crash_states b ≡ crash_states a = adds_left ∙ ap (λ c. crash_states a ++ cond c [] (now b ∷ [])) inside ∙ append-nil _ in
      record {
        base = d.base;
        added = act ∷ [];
        recent = d.recent;
        actions = adds_count;
        grew = subst (λ l. StutterEquivalent l (map trees_of (crash_states a) ++ [])) (ap (map trees_of) (sym same)) (subst (λ l. StutterEquivalent (map trees_of (crash_states a)) l) (sym (append-nil _)) (matches_same _));
        safe = λ s. record { whole = λ x i. s.whole x (subst (λ l. In x l) same i) };
      }

pub same_left : (a b : Store) → b.base ≡ a.base → b.recent ≡ a.recent → crash_states b ≡ crash_states a
same_left a b base recent = ap (λ s. left_from s b.recent) base ∙ ap (λ l. left_from a.base l) recent

-- no action: faults, the mark, and what can be read do not matter
pub extends_nothing : (a b : Store) → b.base ≡ a.base → b.recent ≡ a.recent → b.actions ≡ a.actions → AddsCrashStates [] a b
extends_nothing a b base recent actions =
    let same = same_left a b base recent in
    record {
      base = base;
      added = [];
      recent = recent ∙ sym (append-nil a.recent);
      actions = actions ∙ zero_more a.actions;
      grew = subst (λ l. StutterEquivalent l (map trees_of (crash_states a) ++ [])) (ap (map trees_of) (sym same)) (subst (λ l. StutterEquivalent (map trees_of (crash_states a)) l) (sym (append-nil _)) (matches_same _));
      safe = λ s. record { whole = λ x i. s.whole x (subst (λ l. In x l) same i) };
    }
  where
    zero_more : (n : ℕ) → n ≡ n + 0
    zero_more n = omega arith

pub extends_same : (a : Store) → AddsCrashStates [] a a
extends_same a = extends_nothing a a refl refl refl

-- one growth after another
pub extends_then : {k l : List Trees} {a b c : Store} → AddsCrashStates k a b → AddsCrashStates l b c → AddsCrashStates (k ++ l) a c
extends_then {k} {l} {a} {b} {c} e g = record {
  base = g.base ∙ e.base;
  added = e.added ++ g.added;
  recent = g.recent ∙ ap (λ z. z ++ g.added) e.recent ∙ append_assoc a.recent e.added g.added;
  actions = count a.actions b.actions c.actions (length e.added) (length g.added) (length (e.added ++ g.added)) g.actions e.actions (length-append e.added g.added);
  grew = subst (λ z. StutterEquivalent (map trees_of (crash_states c)) z) (append_assoc (map trees_of (crash_states a)) k l) (matches_then g.grew (matches_append e.grew (matches_same l)));
  safe = λ s. g.safe (e.safe s);
}
  where
    count : (x y z n m o : ℕ) → z ≡ y + m → y ≡ x + n → o ≡ n + m → z ≡ x + o
    count x y z n m o p q r = omega arith

-- a call that is decided and changes nothing: the trees now stand once more
pub extends_again : {maps : List Trees} {a b : Store} → AddsCrashStates maps a b → (now b).in_group ≡ false → AddsCrashStates (maps ++ trees_of (now b) ∷ []) a b
extends_again {maps} {a} {b} e out =
    let last = left_end b.recent b.base out in
    let is : map trees_of (crash_states b) ≡ map trees_of last.0 ++ trees_of (now b) ∷ [] = ap (map trees_of) last.1 ∙ map-append trees_of last.0 (now b ∷ []) in
    record {
      base = e.base;
      added = e.added;
      recent = e.recent;
      actions = e.actions;
      grew = subst (λ z. StutterEquivalent (map trees_of (crash_states b)) z) (append_assoc (map trees_of (crash_states a)) maps (trees_of (now b) ∷ []))
          (matches_then (subst (λ z. StutterEquivalent z (z ++ trees_of (now b) ∷ [])) (sym is) (matches_again _ _)) (matches_append e.grew (matches_same (trees_of (now b) ∷ []))));
      safe = e.safe;
    }

-- the state now may be left, where no group is open
pub now_left : (s : Store) → (now s).in_group ≡ false → In (now s) (crash_states s)
now_left s out = let last = left_end s.recent s.base out in subst (λ l. In (now s) l) (sym last.1) (In-right last.0 (now s ∷ []) (now s) (inl refl))

-- after a flush a crash can leave the state now alone
pub flushes_left : {a b : Store} → Flushes a b → (now a).in_group ≡ false → crash_states b ≡ now a ∷ []
flushes_left {a} {b} d out = ap (λ s. left_from s b.recent) d.base ∙ ap (λ l. left_from (now a) l) d.recent ∙ ap (λ c. cond c [] (now a ∷ [])) out

pub flushes_now : {a b : Store} → Flushes a b → now b ≡ now a
flushes_now {a} {b} d = ap (λ s. after_all b.recent s) d.base ∙ ap (λ l. after_all l (now a)) d.recent

pub flushes_same : (a : Store) → Flushes a (after_flush a)
flushes_same a = record { base = refl; recent = refl; actions = refl }

-- the calls of a store, as one action

pub adds_acted : (act : Action) (a : Store) → AddsAction act a (after_action act a)
adds_acted act a = record { base = refl; recent = refl; actions = refl }

pub adds_is : {act : Action} {a b : Store} → b ≡ after_action act a → AddsAction act a b
adds_is {act} {a} e = subst (λ z. AddsAction act a z) (sym e) (adds_acted act a)

pub adds_page : {node : Node} {pid version : ℕ} {a b : Store} → Allocates node pid version a b → AddsAction (PageBecomes pid (Some (record { version = version; node = node }))) a b
adds_page {node} {pid} {version} {a} e = subst (λ z. AddsAction (PageBecomes pid (Some (record { version = version; node = node }))) a z) (sym e.is) (record { base = refl; recent = refl; actions = refl })

-- the laws

pub extends_law : ExtendsLaw
extends_law k l a b c e g = extends_then e g

pub rests_law : RestsLaw
rests_law = extends_nothing

pub decides_law : DecidesLaw
decides_law act a b d = adds_extends d

pub unseen_law : UnseenLaw
unseen_law act a b d = adds_unseen d

pub inside_group_law : InsideGroupLaw
inside_group_law act a b d = adds_inside d

pub again_law : AgainLaw
again_law maps a b e = extends_again e

pub valid_law : ValidLaw
valid_law act a b d old new = record { whole = adds_each d IsValid old.whole new }

pub flushes_valid_law : FlushesValidLaw
flushes_valid_law a b d out is = record { whole = λ x i. elim (subst (λ l. In x l) (flushes_left d out) i) [ inl e ↦ subst IsValid (sym e) is | inr e ↦ absurd e ] }
