-- Lists by index and by membership.
use Rattle.std.proofs.Common.{◌≡◌, ℕ, zero, suc, ◌≤◌, ◌<◌, ◌+◌, List, [], ◌∷◌, ◌++◌, length, ◌-◌, get_or, slice_get, map, Some, sym, refl, ap, ◌∙◌, subst, inl, inr, arith}
use Rattle.std.specs.List.{All, AllWithin, AllByRecursion}
use Rattle.std.proofs.lemmas.Bool.{cases_eq}
use Rattle.std.proofs.lemmas.Option.{slice_get-get_or}
use Rattle.std.proofs.Math.Seq.{get_or-append_seam}
use Rattle.sled_store.specs.In.{In}
use Rattle.tree_laws.specs.Forest.{later}
use Rattle.sled_nodes.specs.Order.{Key}

pub in_at : {A : Type 0} (xs : List A) (i : ℕ) (d : A) → i < length xs → In (get_or xs i d) xs
in_at [] i d l = absurd (omega (arith, l))
in_at (x ∷ xs) zero d l = inl refl
in_at (x ∷ xs) (suc i) d l = inr (in_at xs i d (omega (arith, l)))

pub later_at : (es : List (Key × ℕ)) (i : ℕ) (d : Key × ℕ) → 1 ≤ i → i < length es → In (get_or es i d) (later es)
later_at [] i d a l = absurd (omega (arith, l))
later_at (e ∷ es) zero d a l = absurd (omega (arith, a))
later_at (e ∷ es) (suc i) d a l = in_at es i d (omega (arith, l))

pub all_in : {A : Type 0} (P : A → Type 0) (xs : List A) → All P xs → (x : A) → In x xs → P x
all_in P [] a x i = absurd i
all_in P (y ∷ xs) a x (inl e) = subst P (sym e) (a 0 y (omega arith))
all_in P (y ∷ xs) a x (inr i) = all_in P xs (λ k d l. a (suc k) d (omega (arith, l))) x i

pub all_by : {A : Type 0} (P : A → Type 0) (xs : List A) → All P xs → AllByRecursion P xs
all_by P [] a = tt
all_by P (y ∷ xs) a = (a 0 y (omega arith), all_by P xs (λ k d l. a (suc k) d (omega (arith, l))))

-- what holds of each of the first elements, and of the next one
pub one_more : {A : Type 0} (P : A → Type 0) (xs : List A) (i : ℕ) (e : A) → AllWithin P xs 0 i → ((d : A) → get_or xs i d ≡ e) → P e → AllWithin P xs 0 (i + 1)
one_more P xs i e a is p k d low high = elim (cases_eq k i) [
  | inl same ↦ subst P (sym (ap (λ z. get_or xs z d) same ∙ is d)) p
  | inr off ↦ a k d low (omega (arith, off, high))
]

pub map_append : {A B : Type 0} (f : A → B) (xs ys : List A) → map f (xs ++ ys) ≡ map f xs ++ map f ys
map_append f [] ys = refl
map_append f (x ∷ xs) ys = ap (λ r. f x ∷ r) (map_append f xs ys)

pub at_any : {A : Type 0} (xs : List A) (i : ℕ) (v : A) → i < length xs → v ≡ get_or xs i v → (d : A) → get_or xs i d ≡ v
at_any [] i v l is d = absurd (omega (arith, l))
at_any (x ∷ xs) zero v l is d = sym is
at_any (x ∷ xs) (suc i) v l is d = at_any xs i v (omega (arith, l)) is d

pub in_map : {A B : Type 0} (f : A → B) (xs : List A) (y : B) → In y (map f xs) → (x : A) × In x xs × (f x ≡ y)
in_map f [] y i = absurd i
in_map f (x ∷ xs) y (inl e) = (x, inl refl, sym e)
in_map f (x ∷ xs) y (inr i) = let r = in_map f xs y i in (r.0, inr r.1, r.2)

one_longer : {A : Type 0} (xs : List A) (x : A) → length (xs ++ x ∷ []) ≡ suc (length xs)
one_longer [] x = refl
one_longer (y ∷ xs) x = ap suc (one_longer xs x)

pub last_is : {A : Type 0} (xs : List A) (x : A) → slice_get (xs ++ x ∷ []) (length (xs ++ x ∷ []) - 1) ≡ Some x
last_is xs x =
    let more = one_longer xs x in
    let last : length (xs ++ x ∷ []) - 1 ≡ length xs = omega (arith, more) in
    let less : length xs < length (xs ++ x ∷ []) = omega (arith, more) in
    ap (slice_get (xs ++ x ∷ [])) last ∙ (slice_get-get_or (xs ++ x ∷ []) (length xs) x less ∙ ap Some (get_or-append_seam xs x [] x))
