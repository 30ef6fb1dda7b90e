-- Sums over a chain of pages and over the levels of a tree, where some of the summands change.
use Rattle.std.proofs.Common.{◌≡◌, ◌≢◌, ℕ, zero, suc, ◌+◌, ◌≤◌, ◌<◌, List, [], ◌∷◌, ◌++◌, sum_by, sym, refl, ap, ◌∙◌, subst, inl, inr, arith}
use Rattle.std.proofs.lemmas.List.Sums.{sum_by-append, sum_by-cons}
use Rattle.sled_nodes.proofs.Basics.{same_or_not}
use Rattle.sled_store.specs.In.{In}

pub no_more : (a b : ℕ) → a ≤ b + 0 → a ≤ b
no_more a b l = omega arith

-- the first page of a level weighs this, and the others that
abbrev pub chained : (ℕ → ℕ) → (ℕ → ℕ) → List ℕ → ℕ
chained first rest [] = 0
chained first rest (p ∷ ps) = first p + sum_by rest ps

pub sum_same : {X : Type 0} (f g : X → ℕ) (ps : List X) → ((q : X) → In q ps → g q ≡ f q) → sum_by g ps ≡ sum_by f ps
sum_same f g [] same = refl
sum_same f g (p ∷ ps) same =
    let a = same p (inl refl) in
    let b = sum_same f g ps (λ q i. same q (inr i)) in
    sum_by-cons g p ps ∙ ap (λ z. z + sum_by g ps) a ∙ ap (λ z. f p + z) b ∙ sym (sum_by-cons f p ps)

-- no page weighs otherwise
pub chained_same : (f f' g g' : ℕ → ℕ) (ps : List ℕ) → ((q : ℕ) → In q ps → f' q ≡ f q) → ((q : ℕ) → In q ps → g' q ≡ g q) → chained f' g' ps ≡ chained f g ps
chained_same f f' g g' [] a b = refl
chained_same f f' g g' (p ∷ ps) a b = ap (λ z. z + sum_by g' ps) (a p (inl refl)) ∙ ap (λ z. f p + z) (sum_same g g' ps (λ q i. b q (inr i)))

-- In the middle of a chain stands the page p, and behind it `gone` become `added`; the pages before and behind these weigh as before
pub chained_change : (f f' g g' : ℕ → ℕ) (xs gone added ys : List ℕ) (p d e : ℕ)
    → ((q : ℕ) → In q xs → (f' q ≡ f q) × (g' q ≡ g q)) → ((q : ℕ) → In q ys → g' q ≡ g q)
    → (xs ≡ [] → f' p + sum_by g' added + d ≤ f p + sum_by g gone + e)
    → (xs ≢ [] → g' p + sum_by g' added + d ≤ g p + sum_by g gone + e)
    → chained f' g' (xs ++ (p ∷ (added ++ ys))) + d ≤ chained f g (xs ++ (p ∷ (gone ++ ys))) + e
chained_change f f' g g' [] gone added ys p d e early late first other =
    let a = sum_by-append g' added ys in
    let b = sum_by-append g gone ys in
    let c = sum_same g g' ys late in
    joined (f' p) (f p) (sum_by g' (added ++ ys)) (sum_by g (gone ++ ys)) (sum_by g' added) (sum_by g gone) (sum_by g' ys) (sum_by g ys) a b c (first refl)
  where
    joined : (x y s r i j k l : ℕ) → s ≡ i + k → r ≡ j + l → k ≡ l → x + i + d ≤ y + j + e → (x + s) + d ≤ (y + r) + e
    joined x y s r i j k l u v h t = omega arith
chained_change f f' g g' (x ∷ xs) gone added ys p d e early late first other =
    let a = sum_by-append g' xs (p ∷ (added ++ ys)) in
    let b = sum_by-append g xs (p ∷ (gone ++ ys)) in
    let a' = sum_by-append g' added ys in
    let b' = sum_by-append g gone ys in
    let c = sum_same g g' ys late in
    let h = sum_same g g' xs (λ q i. (early q (inr i)).1) in
    let a'' = sum_by-cons g' p (added ++ ys) in
    let b'' = sum_by-cons g p (gone ++ ys) in
    joined (f' x) (f x) (sum_by g' (xs ++ (p ∷ (added ++ ys)))) (sum_by g (xs ++ (p ∷ (gone ++ ys)))) (sum_by g' xs) (sum_by g xs) (g' p) (g p) (sum_by g' (added ++ ys)) (sum_by g (gone ++ ys)) (sum_by g' added) (sum_by g gone) (sum_by g' ys) (sum_by g ys)
    (early x (inl refl)).0 h (a ∙ ap (λ z. sum_by g' xs + z) a'') (b ∙ ap (λ z. sum_by g xs + z) b'') a' b' c (other cons_not)
  where
    cons_not : (x ∷ xs) ≢ []
    cons_not u = cc

    joined : (x y s r i j m n u v k l z w : ℕ) → x ≡ y → i ≡ j → s ≡ i + (m + u) → r ≡ j + (n + v) → u ≡ k + z → v ≡ l + w → z ≡ w → m + k + d ≤ n + l + e → (x + s) + d ≤ (y + r) + e
    joined x y s r i j m n u v k l z w a b c d' e' f' h t = omega arith

-- the sum over the levels below this height
abbrev pub over : (ℕ → ℕ) → ℕ → ℕ
over f zero = 0
over f (suc n) = f n + over f n

pub over_same : (f g : ℕ → ℕ) (n : ℕ) → ((h : ℕ) → h < n → g h ≡ f h) → over g n ≡ over f n
over_same f g zero same = refl
over_same f g (suc n) same = ap (λ z. z + over g n) (same n (omega arith)) ∙ ap (λ z. f n + z) (over_same f g n (λ h l. same h (omega arith)))

-- the level k changes,
pub over_one : (f g : ℕ → ℕ) (n k d e : ℕ) → k < n → ((h : ℕ) → h < n → h ≢ k → g h ≡ f h) → g k + d ≤ f k + e → over g n + d ≤ over f n + e
over_one f g zero k d e l same at = absurd (no l)
  where
    no : k < 0 → ⊥
    no l = omega arith
over_one f g (suc n) k d e l same at = elim (same_or_not n k) [
  | inl is ↦
      let b = over_same f g n (λ h l. same h (omega arith) (omega arith)) in
      joined (g n) (f n) (over g n) (over f n) b (subst (λ z. g z + d ≤ f z + e) (sym is) at)
  | inr off ↦
      let b = over_one f g n k d e (omega arith) (λ h l o. same h (omega arith) o) at in
      more (g n) (f n) (over g n) (over f n) (same n (omega arith) off) b
]
  where
    joined : (a b x y : ℕ) → x ≡ y → a + d ≤ b + e → (a + x) + d ≤ (b + y) + e
    joined a b x y u v = omega arith

    more : (a b x y : ℕ) → a ≡ b → x + d ≤ y + e → (a + x) + d ≤ (b + y) + e
    more a b x y u v = omega arith

-- .. or the levels k and k + 1
pub over_two : (f g : ℕ → ℕ) (n k d e : ℕ) → suc k < n → ((h : ℕ) → h < n → h ≢ k → h ≢ suc k → g h ≡ f h) → g (suc k) + g k + d ≤ f (suc k) + f k + e → over g n + d ≤ over f n + e
over_two f g zero k d e l same at = absurd (no l)
  where
    no : suc k < 0 → ⊥
    no l = omega arith
over_two f g (suc n) k d e l same at = elim (same_or_not n (suc k)) [
  | inl is ↦
      let c : g n + g k + d ≤ f n + f k + e = subst (λ z. g z + g k + d ≤ f z + f k + e) (sym is) at in
      let b : over g n + (g n + d) ≤ over f n + (f n + e) = over_one f g n k (g n + d) (f n + e) (omega arith) (λ h l o. same h (omega arith) o (omega arith)) (turned (g n) (g k) (f n) (f k) c) in
      joined (g n) (f n) (over g n) (over f n) b
  | inr off ↦
      let b = over_two f g n k d e (omega arith) (λ h l o o'. same h (omega arith) o o') at in
      more (g n) (f n) (over g n) (over f n) (same n (omega arith) (omega arith) off) b
]
  where
    turned : (a b x y : ℕ) → a + b + d ≤ x + y + e → b + (a + d) ≤ y + (x + e)
    turned a b x y u = omega arith

    joined : (a b x y : ℕ) → x + (a + d) ≤ y + (b + e) → (a + x) + d ≤ (b + y) + e
    joined a b x y u = omega arith

    more : (a b x y : ℕ) → a ≡ b → x + d ≤ y + e → (a + x) + d ≤ (b + y) + e
    more a b x y u v = omega arith
