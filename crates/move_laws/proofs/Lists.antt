-- Lists of calls, one of which stands between the others.
use Rattle.std.proofs.Common.{◌≡◌, ℕ, ◌+◌, ◌≤◌, Bool, true, false, cond, sum_by, flat_map, List, [], ◌∷◌, ◌++◌, sym, refl, ap, ◌∙◌, subst, inl, inr, ◌⊎◌, arith, le_refl}
use Rattle.std.proofs.lemmas.List.Sums.{sum_by-cons}
use Rattle.std.specs.List.{count_by}
use Rattle.sled_store.specs.In.{In}
use Rattle.tree_laws.proofs.Runs.{In-left, In-right, In_cases}

-- what a function gives along a list
pub gathers : {A : Type 0} (f : A → List ℕ) (xs : List A) (x : A) (q : ℕ) → In x xs → In q (f x) → In q (flat_map f xs)
gathers f [] x q i k = absurd i
gathers f (y ∷ ys) x q (inl e) k = In-left (f y) _ q (subst (λ z. In q (f z)) e k)
gathers f (y ∷ ys) x q (inr i) k = In-right (f y) _ q (gathers f ys x q i k)

pub gathered : {A : Type 0} (f : A → List ℕ) (xs : List A) (q : ℕ) → In q (flat_map f xs) → (x : A) × In x xs × In q (f x)
gathered f [] q i = absurd i
gathered f (y ∷ ys) q i = elim (In_cases (f y) _ q i) [
  | inl a ↦ (y, inl refl, a)
  | inr a ↦ let b = gathered f ys q a in (b.0, inr b.1, b.2)
]

pub middle : {A : Type 0} (xs ys : List A) (x : A) → In x (xs ++ x ∷ ys)
middle [] ys x = inl refl
middle (y ∷ xs) ys x = inr (middle xs ys x)

-- the others are among all
pub others_in : {A : Type 0} (xs ys : List A) (x z : A) → In z (xs ++ ys) → In z (xs ++ x ∷ ys)
others_in [] ys x z i = inr i
others_in (y ∷ xs) ys x z (inl e) = inl e
others_in (y ∷ xs) ys x z (inr i) = inr (others_in xs ys x z i)

-- .. and each of all is the one or one of the others
pub one_of : {A : Type 0} (xs ys : List A) (x z : A) → In z (xs ++ x ∷ ys) → (z ≡ x) ⊎ In z (xs ++ ys)
one_of [] ys x z (inl e) = inl e
one_of [] ys x z (inr i) = inr i
one_of (y ∷ xs) ys x z (inl e) = inr (inl e)
one_of (y ∷ xs) ys x z (inr i) = elim (one_of xs ys x z i) [ inl e ↦ inl e | inr j ↦ inr (inr j) ]

pub sum_less : {A : Type 0} (g f : A → ℕ) (xs : List A) → ((x : A) → In x xs → g x ≤ f x) → sum_by g xs ≤ sum_by f xs
sum_less g f [] less = le_refl _
sum_less g f (x ∷ xs) less = sum _ _ _ _ _ _ (sum_by-cons g x xs) (sum_by-cons f x xs) (less x (inl refl)) (sum_less g f xs (λ z i. less z (inr i)))
  where
    sum : (a b c d u v : ℕ) → a ≡ c + u → b ≡ d + v → c ≤ d → u ≤ v → a ≤ b
    sum a b c d u v e e' l l' = omega arith

-- one summand changes, and the others rise no more
pub sum_falls : {A : Type 0} (g f : A → ℕ) (xs ys : List A) (x y : A) (by : ℕ) → ((z : A) → In z (xs ++ ys) → g z ≤ f z) → g y + by ≤ f x → sum_by g (xs ++ y ∷ ys) + by ≤ sum_by f (xs ++ x ∷ ys)
sum_falls g f [] ys x y by less here = sum _ _ _ _ _ _ (sum_by-cons g y ys) (sum_by-cons f x ys) here (sum_less g f ys less)
  where
    sum : (a b c d u v : ℕ) → a ≡ c + u → b ≡ d + v → c + by ≤ d → u ≤ v → a + by ≤ b
    sum a b c d u v e e' l l' = omega arith
sum_falls g f (z ∷ xs) ys x y by less here = sum _ _ _ _ _ _ (sum_by-cons g z (xs ++ y ∷ ys)) (sum_by-cons f z (xs ++ x ∷ ys)) (less z (inl refl)) (sum_falls g f xs ys x y by (λ q i. less q (inr i)) here)
  where
    sum : (a b c d u v : ℕ) → a ≡ c + u → b ≡ d + v → c ≤ d → u + by ≤ v → a + by ≤ b
    sum a b c d u v e e' l l' = omega arith

-- each summand is less
pub sum_below : {A : Type 0} (g f : A → ℕ) (xs : List A) (x : A) → In x xs → ((z : A) → In z xs → g z + 1 ≤ f z) → sum_by g xs + 1 ≤ sum_by f xs
sum_below g f [] x i less = absurd i
sum_below g f (y ∷ ys) x i less = sum _ _ _ _ _ _ (sum_by-cons g y ys) (sum_by-cons f y ys) (less y (inl refl)) (sum_less g f ys (λ z k. weaker _ _ (less z (inr k))))
  where
    weaker : (a b : ℕ) → a + 1 ≤ b → a ≤ b
    weaker a b l = omega arith

    sum : (a b c d u v : ℕ) → a ≡ c + u → b ≡ d + v → c + 1 ≤ d → u ≤ v → a + 1 ≤ b
    sum a b c d u v e e' l l' = omega arith

-- one summand is no more than the sum
pub one_within : {A : Type 0} (f : A → ℕ) (xs : List A) (x : A) → In x xs → f x ≤ sum_by f xs
one_within f [] x i = absurd i
one_within f (y ∷ ys) x (inl e) = subst (λ z. f z ≤ sum_by f (y ∷ ys)) (sym e) (sum _ _ _ (sum_by-cons f y ys))
  where
    sum : (a b c : ℕ) → a ≡ b + c → b ≤ a
    sum a b c e = omega arith
one_within f (y ∷ ys) x (inr i) = sum _ _ _ _ (sum_by-cons f y ys) (one_within f ys x i)
  where
    sum : (a b c d : ℕ) → a ≡ b + c → d ≤ c → d ≤ a
    sum a b c d e l = omega arith

-- what a function gives along a list, where one element stands for another
pub gathers_same : {A : Type 0} (f : A → List ℕ) (xs ys : List A) (x y : A) → f x ≡ f y → flat_map f (xs ++ x ∷ ys) ≡ flat_map f (xs ++ y ∷ ys)
gathers_same f [] ys x y e = ap (λ z. z ++ flat_map f ys) e
gathers_same f (z ∷ xs) ys x y e = ap (λ l. f z ++ l) (gathers_same f xs ys x y e)

-- elements that pass, of which fewer pass
as_number : (a b : Bool) → (a ≡ true → b ≡ true) → cond a 1 0 ≤ cond b 1 0
as_number false b k = omega arith
as_number true false k = absurd (off (k refl))
  where
    off : false ≡ true → ⊥
    off e = cc
as_number true true k = le_refl 1

pub count_less : {A : Type 0} (p q : A → Bool) (xs : List A) → ((x : A) → In x xs → p x ≡ true → q x ≡ true) → count_by p xs ≤ count_by q xs
count_less p q xs k = sum_less (λ x. cond (p x) 1 0) (λ x. cond (q x) 1 0) xs (λ x i. as_number (p x) (q x) (k x i))

pub count_fewer : {A : Type 0} (p q : A → Bool) (xs : List A) (x : A) → In x xs → p x ≡ false → q x ≡ true → ((y : A) → In y xs → p y ≡ true → q y ≡ true) → count_by p xs + 1 ≤ count_by q xs
count_fewer p q [] x i off on k = absurd i
count_fewer p q (y ∷ ys) x (inl e) off on k = sum _ _ _ _ _ _ (sum_by-cons (λ z. cond (p z) 1 0) y ys) (sum_by-cons (λ z. cond (q z) 1 0) y ys) (ap (λ z. cond (p z) 1 0) (sym e) ∙ ap (λ b. cond b 1 0) off) (ap (λ z. cond (q z) 1 0) (sym e) ∙ ap (λ b. cond b 1 0) on) (count_less p q ys (λ z j. k z (inr j)))
  where
    sum : (a b c d u v : ℕ) → a ≡ c + u → b ≡ d + v → c ≡ 0 → d ≡ 1 → u ≤ v → a + 1 ≤ b
    sum a b c d u v e g h i l = omega arith
count_fewer p q (y ∷ ys) x (inr i) off on k = sum _ _ _ _ _ _ (sum_by-cons (λ z. cond (p z) 1 0) y ys) (sum_by-cons (λ z. cond (q z) 1 0) y ys) (as_number (p y) (q y) (k y (inl refl))) (count_fewer p q ys x i off on (λ z j. k z (inr j)))
  where
    sum : (a b c d u v : ℕ) → a ≡ c + u → b ≡ d + v → c ≤ d → u + 1 ≤ v → a + 1 ≤ b
    sum a b c d u v e g h l = omega arith

pub count_same : {A : Type 0} (p q : A → Bool) (xs : List A) → ((x : A) → In x xs → p x ≡ q x) → count_by p xs ≡ count_by q xs
count_same p q [] k = refl
count_same p q (x ∷ xs) k = sum_by-cons (λ z. cond (p z) 1 0) x xs ∙ ap (λ b. cond b 1 0 + count_by p xs) (k x (inl refl)) ∙ ap (λ n. cond (q x) 1 0 + n) (count_same p q xs (λ z i. k z (inr i))) ∙ sym (sum_by-cons (λ z. cond (q z) 1 0) x xs)
