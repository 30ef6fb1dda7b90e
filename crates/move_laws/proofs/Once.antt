-- Sums over pages, in which each of them counts once.
use Rattle.std.proofs.Common.{◌≡◌, ◌≢◌, ℕ, ◌+◌, ◌≤◌, Bool, true, false, cond, nat_eq, List, [], ◌∷◌, sym, refl, ap, ◌∙◌, subst, inl, inr, ◌⊎◌, arith, le_trans}
use Rattle.std.proofs.lemmas.Bool.{eq-eqb, ne_eqb}
use Rattle.sled_nodes.proofs.Basics.{same_or_not, true_false}
use Rattle.sled_store.specs.In.{In}
use Rattle.tree_progress.specs.ToDo.{is_in}
use Rattle.tree_progress.proofs.Among.{in_of, of_in, not_in}
use Rattle.move_laws.specs.Meant.{sum_once}

-- a list without a page
abbrev pub drop : ℕ → List ℕ → List ℕ
drop p [] = []
drop p (q ∷ qs) = cond (nat_eq q p) (drop p qs) (q ∷ drop p qs)

drop_here : (p q : ℕ) (qs : List ℕ) → q ≡ p → drop p (q ∷ qs) ≡ drop p qs
drop_here p q qs e = ap (λ b. cond b (drop p qs) (q ∷ drop p qs)) (eq-eqb q p e)

drop_off : (p q : ℕ) (qs : List ℕ) → q ≢ p → drop p (q ∷ qs) ≡ q ∷ drop p qs
drop_off p q qs e = ap (λ b. cond b (drop p qs) (q ∷ drop p qs)) (ne_eqb q p e)

pub in_drop : (p c : ℕ) (qs : List ℕ) → In c qs → c ≢ p → In c (drop p qs)
in_drop p c [] i off = i
in_drop p c (q ∷ qs) i off = elim (same_or_not q p) [
  | inl e ↦ subst (λ l. In c l) (sym (drop_here p q qs e)) (elim i [ inl a ↦ absurd (off (a ∙ e)) | inr j ↦ in_drop p c qs j off ])
  | inr e ↦ subst (λ l. In c l) (sym (drop_off p q qs e)) (elim i [ inl a ↦ inl a | inr j ↦ inr (in_drop p c qs j off) ])
]

pub of_drop : (p c : ℕ) (qs : List ℕ) → In c (drop p qs) → In c qs × (c ≢ p)
of_drop p c [] i = absurd i
of_drop p c (q ∷ qs) i = elim (same_or_not q p) [
  | inl e ↦ let a = of_drop p c qs (subst (λ l. In c l) (drop_here p q qs e) i) in (inr a.0, a.1)
  | inr e ↦ elim (subst (λ l. In c l) (drop_off p q qs e) i) [
    | inl a ↦ (inl a, λ z. e (sym a ∙ z))
    | inr j ↦ let b = of_drop p c qs j in (inr b.0, b.1)
  ]
]

-- one more page at the head
once_in : (f : ℕ → ℕ) (p : ℕ) (ps : List ℕ) → In p ps → sum_once f (p ∷ ps) ≡ sum_once f ps
once_in f p ps i = ap (λ b. cond b 0 (f p) + sum_once f ps) (of_in p ps i) ∙ none (sum_once f ps)
  where
    none : (x : ℕ) → 0 + x ≡ x
    none x = omega arith

once_out : (f : ℕ → ℕ) (p : ℕ) (ps : List ℕ) → ¬ (In p ps) → sum_once f (p ∷ ps) ≡ f p + sum_once f ps
once_out f p ps i = ap (λ b. cond b 0 (f p) + sum_once f ps) (not_in p ps i)

pub is_among : (p : ℕ) (ps : List ℕ) → In p ps ⊎ ¬ (In p ps)
is_among p ps = go (is_in p ps) refl
  where
    go : (b : Bool) → is_in p ps ≡ b → In p ps ⊎ ¬ (In p ps)
    go true e = inl (in_of p ps e)
    go false e = inr (λ i. true_false (sym (of_in p ps i) ∙ e))

drop_none : (f : ℕ → ℕ) (p : ℕ) (qs : List ℕ) → ¬ (In p qs) → sum_once f (drop p qs) ≡ sum_once f qs
drop_none f p [] out = refl
drop_none f p (q ∷ qs) out =
    let off : q ≢ p = λ e. out (inl (sym e)) in
    let rest = drop_none f p qs (λ i. out (inr i)) in
    ap (sum_once f) (drop_off p q qs off) ∙ elim (is_among q qs) [
      | inl i ↦ once_in f q _ (in_drop p q qs i off) ∙ rest ∙ sym (once_in f q qs i)
      | inr n ↦ once_out f q _ (λ j. n (of_drop p q qs j).0) ∙ ap (λ z. f q + z) rest ∙ sym (once_out f q qs n)
    ]

-- without one of its pages a list sums to so much less
pub drop_one : (f : ℕ → ℕ) (p : ℕ) (qs : List ℕ) → In p qs → sum_once f (drop p qs) + f p ≤ sum_once f qs
drop_one f p [] i = absurd i
drop_one f p (q ∷ qs) i = elim (same_or_not q p) [
  | inl e ↦ here e (λ j. drop_one f p qs j) (is_among p qs)
  | inr off ↦ elim i [
    | inl e ↦ absurd (off (sym e))
    | inr j ↦
        let rest = drop_one f p qs j in
        elim (is_among q qs) [
          | inl a ↦ sum _ _ _ (ap (sum_once f) (drop_off p q qs off) ∙ once_in f q _ (in_drop p q qs a off)) (once_in f q qs a) rest
          | inr n ↦ more _ _ _ _ (f q) (ap (sum_once f) (drop_off p q qs off) ∙ once_out f q _ (λ k. n (of_drop p q qs k).0)) (once_out f q qs n) rest
        ]
  ]
]
  where
    sum : (a b c : ℕ) {d : ℕ} → a ≡ c → b ≡ d → c + f p ≤ d → a + f p ≤ b
    sum a b c e g l = omega arith

    more : (a b c d x : ℕ) → a ≡ x + c → b ≡ x + d → c + f p ≤ d → a + f p ≤ b
    more a b c d x e g l = omega arith

    head : (a b c x : ℕ) → a ≡ c → b ≡ x + c → a + x ≤ b
    head a b c x e g = omega arith

    here : q ≡ p → (In p qs → sum_once f (drop p qs) + f p ≤ sum_once f qs) → In p qs ⊎ ¬ (In p qs) → sum_once f (drop p (q ∷ qs)) + f p ≤ sum_once f (q ∷ qs)
    here e less (inl j) = subst (λ z. z + f p ≤ sum_once f (q ∷ qs)) (sym (ap (sum_once f) (drop_here p q qs e))) (subst (λ z. sum_once f (drop p qs) + f p ≤ z) (sym (once_in f q qs (subst (λ z. In z qs) (sym e) j))) (less j))
    here e less (inr n) = head _ _ _ (f p) (ap (sum_once f) (drop_here p q qs e) ∙ drop_none f p qs n) (once_out f q qs (λ j. n (subst (λ z. In z qs) e j)) ∙ ap (λ z. f z + sum_once f qs) e)

-- fewer pages, which count no more each
pub once_less : (g f : ℕ → ℕ) (ps qs : List ℕ) → ((p : ℕ) → In p ps → (g p ≡ 0) ⊎ (In p qs × (g p ≤ f p))) → sum_once g ps ≤ sum_once f qs
once_less g f [] qs less = none _
  where
    none : (x : ℕ) → 0 ≤ x
    none x = omega arith
once_less g f (p ∷ ps) qs less = elim (is_among p ps) [
  | inl i ↦ subst (λ z. z ≤ sum_once f qs) (sym (once_in g p ps i)) (once_less g f ps qs (λ c j. less c (inr j)))
  | inr n ↦ subst (λ z. z ≤ sum_once f qs) (sym (once_out g p ps n)) (elim (less p (inl refl)) [
    | inl e ↦ none (g p) _ _ e (once_less g f ps qs (λ c j. less c (inr j)))
    | inr a ↦ one (g p) (f p) _ _ _ a.1 (drop_one f p qs a.0) (once_less g f ps (drop p qs) (λ c j. elim (less c (inr j)) [
      | inl e ↦ inl e
      | inr b ↦ inr (in_drop p c qs b.0 (λ e. n (subst (λ z. In z ps) e j)), b.1)
    ]))
  ])
]
  where
    none : (x y z : ℕ) → x ≡ 0 → y ≤ z → x + y ≤ z
    none x y z e l = omega arith

    one : (x y u d z : ℕ) → x ≤ y → d + y ≤ z → u ≤ d → x + u ≤ z
    one x y u d z a b c = omega arith

-- a page counts so much more
abbrev bump : (ℕ → ℕ) → ℕ → ℕ → ℕ → ℕ
bump f p e q = cond (nat_eq q p) (f q + e) (f q)

bump_here : (f : ℕ → ℕ) (p e q : ℕ) → q ≡ p → bump f p e q ≡ f q + e
bump_here f p e q s = ap (λ b. cond b (f q + e) (f q)) (eq-eqb q p s)

bump_off : (f : ℕ → ℕ) (p e q : ℕ) → q ≢ p → bump f p e q ≡ f q
bump_off f p e q s = ap (λ b. cond b (f q + e) (f q)) (ne_eqb q p s)

bump_none : (f : ℕ → ℕ) (p e : ℕ) (qs : List ℕ) → ¬ (In p qs) → sum_once (bump f p e) qs ≡ sum_once f qs
bump_none f p e [] out = refl
bump_none f p e (q ∷ qs) out =
    let rest = bump_none f p e qs (λ i. out (inr i)) in
    elim (is_among q qs) [
      | inl i ↦ once_in (bump f p e) q qs i ∙ rest ∙ sym (once_in f q qs i)
      | inr n ↦ once_out (bump f p e) q qs n ∙ ap (λ z. z + sum_once (bump f p e) qs) (bump_off f p e q (λ s. out (inl (sym s)))) ∙ ap (λ z. f q + z) rest ∙ sym (once_out f q qs n)
    ]

bump_few : (f : ℕ → ℕ) (p e : ℕ) (qs : List ℕ) → sum_once (bump f p e) qs ≤ sum_once f qs + e
bump_few f p e [] = none _
  where
    none : (x : ℕ) → 0 ≤ 0 + x
    none x = omega arith
bump_few f p e (q ∷ qs) = elim (is_among q qs) [
  | inl i ↦ both _ _ _ _ (once_in (bump f p e) q qs i) (once_in f q qs i) (bump_few f p e qs)
  | inr n ↦ elim (same_or_not q p) [
    | inl s ↦ here _ _ _ _ (f q) (once_out (bump f p e) q qs n ∙ ap (λ z. z + sum_once (bump f p e) qs) (bump_here f p e q s)) (once_out f q qs n) (bump_none f p e qs (λ i. n (subst (λ z. In z qs) (sym s) i)))
    | inr off ↦ there _ _ _ _ (f q) (once_out (bump f p e) q qs n ∙ ap (λ z. z + sum_once (bump f p e) qs) (bump_off f p e q off)) (once_out f q qs n) (bump_few f p e qs)
  ]
]
  where
    both : (a b c d : ℕ) → a ≡ c → b ≡ d → c ≤ d + e → a ≤ b + e
    both a b c d u v l = omega arith

    here : (a b c d x : ℕ) → a ≡ (x + e) + c → b ≡ x + d → c ≡ d → a ≤ b + e
    here a b c d x u v l = omega arith

    there : (a b c d x : ℕ) → a ≡ x + c → b ≡ x + d → c ≤ d + e → a ≤ b + e
    there a b c d x u v l = omega arith

-- .. but one counts so much more
pub once_more : (g f : ℕ → ℕ) (ps qs : List ℕ) (p e : ℕ) → ((c : ℕ) → In c ps → (g c ≡ 0) ⊎ (In c qs × ((g c ≤ f c) ⊎ ((c ≡ p) × (g c ≤ f c + e))))) → sum_once g ps ≤ sum_once f qs + e
once_more g f ps qs p e less = le_trans (once_less g (bump f p e) ps qs (λ c i. elim (less c i) [
  | inl z ↦ inl z
  | inr a ↦ inr (a.0, elim a.1 [ inl l ↦ more c l (same_or_not c p) | inr b ↦ subst (λ z. g c ≤ z) (sym (bump_here f p e c b.0)) b.1 ])
])) (bump_few f p e qs)
  where
    up : (x y : ℕ) → x ≤ y → x ≤ y + e
    up x y l = omega arith

    more : (c : ℕ) → g c ≤ f c → (c ≡ p) ⊎ (c ≢ p) → g c ≤ bump f p e c
    more c l (inl s) = subst (λ z. g c ≤ z) (sym (bump_here f p e c s)) (up _ _ l)
    more c l (inr s) = subst (λ z. g c ≤ z) (sym (bump_off f p e c s)) l

-- .. but one counts no more at all
pub once_without : (g f : ℕ → ℕ) (ps qs : List ℕ) (p : ℕ) → In p qs → ((c : ℕ) → In c ps → (g c ≡ 0) ⊎ (In c qs × (c ≢ p) × (g c ≤ f c))) → sum_once g ps + f p ≤ sum_once f qs
once_without g f ps qs p i less = sum _ _ _ (once_less g f ps (drop p qs) (λ c j. elim (less c j) [ inl z ↦ inl z | inr a ↦ inr (in_drop p c qs a.0 a.1, a.2) ])) (drop_one f p qs i)
  where
    sum : (a b c : ℕ) → a ≤ b → b + f p ≤ c → a + f p ≤ c
    sum a b c l u = omega arith
