-- An index whose pointers change, or its merging child: what the pages below it are found as.
use Rattle.std.proofs.Common.{◌≡◌, ◌≢◌, ℕ, suc, ◌≤◌, true, false, cond, not, nat_eq, map, flat_map, T, List, [], ◌∷◌, ◌++◌, length, Some, sym, refl, ap, ◌∙◌, subst, inl, inr, arith}
use Rattle.std.proofs.lemmas.Bool.Decides.{nat_tests}
use Rattle.std.specs.FinMap.{is_sorted}
use Rattle.std.specs.FinMap.Entries.{below_all}
use Rattle.sled_nodes.proofs.Basics.{none_some, some_is, left_of, right_of, less_of, same_or_not}
use Rattle.sled_nodes.specs.Node.{unpointed}
use Rattle.sled_nodes.specs.Order.{Key, key_cmp, Below}
use Rattle.sled_store.specs.In.{In}
use Rattle.sled_store.specs.State.{Nodes}
use Rattle.tree_laws.specs.Forest.{first_key, first_child}
use Rattle.tree_laws.specs.theory.Drops.{Different}
use Rattle.tree_laws.proofs.Order.{below_irrefl}
use Rattle.tree_laws.proofs.Runs.{In-right}
use Rattle.tree_progress.specs.ToDo.{is_in, led_to, merges, pointed, children}
use Rattle.tree_progress.proofs.Among.{in_alike, gathers, gathered}

-- a page of a chain differs from those before it and behind it
pub apart : (xs ys : List ℕ) (p : ℕ) → Different (xs ++ (p ∷ ys)) → ((q : ℕ) → In q xs → q ≢ p) × ((q : ℕ) → In q ys → q ≢ p)
apart [] ys p d = (λ q i. absurd i, d.0)
apart (x ∷ xs) ys p d =
    let b = apart xs ys p d.1 in
    (λ q i. elim i [ inl e ↦ λ s. d.0 p (In-right xs (p ∷ ys) p (inl refl)) (sym s ∙ e) | inr j ↦ b.0 q j ], b.1)

-- what is found along a list, where a function differs at one page alone
flat_alike : (f g : ℕ → List ℕ) (ps : List ℕ) (p q : ℕ) → ((z : ℕ) → z ≢ p → g z ≡ f z) → (In q (g p) → In q (f p)) → (In q (f p) → In q (g p)) → is_in q (flat_map g ps) ≡ is_in q (flat_map f ps)
flat_alike f g ps p q off a b = in_alike q (flat_map f ps) (flat_map g ps) (one f g off a) (one g f (λ z h. sym (off z h)) b)
  where
    one : (f g : ℕ → List ℕ) → ((z : ℕ) → z ≢ p → g z ≡ f z) → (In q (g p) → In q (f p)) → In q (flat_map g ps) → In q (flat_map f ps)
    one f g off a i =
        let b = gathered g ps q i in
        gathers f ps b.0 q b.1 (elim (same_or_not b.0 p) [
          | inl e ↦ subst (λ z. In q (f z)) (sym e) (a (subst (λ z. In q (g z)) e b.2))
          | inr h ↦ subst (λ l. In q l) (off b.0 h) b.2
        ])

pub pointed_alike : (nodes new : Nodes) (above : List ℕ) (p q : ℕ) → ((z : ℕ) → z ≢ p → new z ≡ nodes z) → (In q (led_to (new p)) → In q (led_to (nodes p))) → (In q (led_to (nodes p)) → In q (led_to (new p)))
    → is_in q (pointed new above) ≡ is_in q (pointed nodes above)
pointed_alike nodes new above p q off a b = flat_alike (λ z. led_to (nodes z)) (λ z. led_to (new z)) above p q (λ z h. ap led_to (off z h)) a b

pub children_alike : (nodes new : Nodes) (above : List ℕ) (p q : ℕ) → ((z : ℕ) → z ≢ p → new z ≡ nodes z) → (In q (merges (new p)) → In q (merges (nodes p))) → (In q (merges (nodes p)) → In q (merges (new p)))
    → is_in q (children new above) ≡ is_in q (children nodes above)
children_alike nodes new above p q off a b = flat_alike (λ z. merges (nodes z)) (λ z. merges (new z)) above p q (λ z h. ap merges (off z h)) a b

-- where the pointers lead
abbrev pub ends : List (Key × ℕ) → List ℕ
ends es = map (λ (e : Key × ℕ). e.1) es

-- without the pointers to c all other pages are led to, and no more
pub unpointed_ends : (c q : ℕ) (es : List (Key × ℕ)) → q ≢ c → (In q (ends (unpointed c es)) → In q (ends es)) × (In q (ends es) → In q (ends (unpointed c es)))
unpointed_ends c q [] off = (λ i. i, λ i. i)
unpointed_ends c q (e ∷ es) off =
    let b = unpointed_ends c q es off in
    (elim (nat_eq e.1 c) as (λ v. nat_eq e.1 c ≡ v → (In q (ends (cond (not v) (e ∷ unpointed c es) (unpointed c es))) → In q (ends (e ∷ es))) × (In q (ends (e ∷ es)) → In q (ends (cond (not v) (e ∷ unpointed c es) (unpointed c es))))) [
      | true ↦ λ g. (λ i. inr (b.0 i), λ i. elim i [ inl a ↦ absurd (off (a ∙ same g)) | inr a ↦ b.1 a ])
      | false ↦ λ g. (λ i. elim i [ inl a ↦ inl a | inr a ↦ inr (b.0 a) ], λ i. elim i [ inl a ↦ inl a | inr a ↦ inr (b.1 a) ])
    ]) refl
  where
    same : nat_eq e.1 c ≡ true → e.1 ≡ c
    same g = grind (arith, nat_tests)

-- each entry stands above a key that all are above
pub above_all : (k : Key) (es : List (Key × ℕ)) (e : Key × ℕ) → T (below_all key_cmp k es) → In e es → Below k e.0
above_all k [] e s i = absurd i
above_all k (x ∷ es) e s (inl g) = subst (λ (z : Key × ℕ). Below k z.0) (sym g) (less_of _ (left_of _ _ s))
above_all k (x ∷ es) e s (inr i) = above_all k es e (right_of _ _ s) i

-- An index leads to a page by one pointer at most: those to a page have one key. So without them it has one entry less at most
pub one_less : (c : ℕ) (low : Key) (es : List (Key × ℕ)) → T (is_sorted key_cmp es) → ((k : Key) → In (k, c) es → k ≡ low) → (length (unpointed c es) ≤ length es) × (length es ≤ suc (length (unpointed c es)))
one_less c low [] s own = (omega arith, omega arith)
one_less c low (e ∷ es) s own =
    let b : (length (unpointed c es) ≤ length es) × (length es ≤ suc (length (unpointed c es))) = one_less c low es (right_of _ _ s) (λ k i. own k (inr i)) in
    (elim (nat_eq e.1 c) as (λ v. nat_eq e.1 c ≡ v → (length (cond (not v) (e ∷ unpointed c es) (unpointed c es)) ≤ length (e ∷ es)) × (length (e ∷ es) ≤ suc (length (cond (not v) (e ∷ unpointed c es) (unpointed c es))))) [
      | true ↦ λ g.
          let here : e.0 ≡ low = own e.0 (inl (λ i. (e.0, sym (same g) i))) in
          let rest : unpointed c es ≡ es = none es (λ k i. below_irrefl e.0 (subst (λ z. Below e.0 z) (own k (inr i) ∙ sym here) (above_all e.0 es (k, c) (left_of _ _ s) i))) in
          kept (length (unpointed c es)) (length es) (ap length rest)
      | false ↦ λ g. more (length (unpointed c es)) (length es) b.0 b.1
    ]) refl
  where
    kept : (x y : ℕ) → x ≡ y → (x ≤ suc y) × (suc y ≤ suc x)
    kept x y e = (omega arith, omega arith)

    more : (x y : ℕ) → x ≤ y → y ≤ suc x → (suc x ≤ suc y) × (suc y ≤ suc (suc x))
    more x y u v = (omega arith, omega arith)

    same : nat_eq e.1 c ≡ true → e.1 ≡ c
    same g = grind (arith, nat_tests)

    none : (es : List (Key × ℕ)) → ((k : Key) → In (k, c) es → ⊥) → unpointed c es ≡ es
    none [] off = refl
    none (a ∷ es) off =
        let rest = none es (λ k i. off k (inr i)) in
        (elim (nat_eq a.1 c) as (λ v. nat_eq a.1 c ≡ v → cond (not v) (a ∷ unpointed c es) (unpointed c es) ≡ a ∷ es) [
          | true ↦ λ g. absurd (off a.0 (inl (λ i. (a.0, sym (led g) i))))
          | false ↦ λ g. ap (λ z. a ∷ z) rest
        ]) refl
      where
        led : nat_eq a.1 c ≡ true → a.1 ≡ c
        led g = grind (arith, nat_tests)

-- the first pointer stays where it leads elsewhere
pub unpointed_first : (c : ℕ) (es : List (Key × ℕ)) (low : Key) → first_key es ≡ Some low → ¬ (In (low, c) es) → first_child (unpointed c es) ≡ first_child es
unpointed_first c [] low e off = none_some e
unpointed_first c (e ∷ es) low is off =
    (elim (nat_eq e.1 c) as (λ v. nat_eq e.1 c ≡ v → first_child (cond (not v) (e ∷ unpointed c es) (unpointed c es)) ≡ Some e.1) [
      | true ↦ λ g. absurd (off (inl (λ i. (sym (some_is is) i, sym (same g) i))))
      | false ↦ λ g. refl
    ]) refl
  where
    same : nat_eq e.1 c ≡ true → e.1 ≡ c
    same g = grind (arith, nat_tests)
