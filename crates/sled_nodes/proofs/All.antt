-- What all entries of a list pass, and numbers up to a bound.
use Rattle.std.proofs.Common.{◌≡◌, ℕ, ◌+◌, ◌<◌, Bool, true, ◌&&◌, List, [], ◌∷◌, ◌++◌, refl, sym, ap, ◌∙◌, arith, ◌≤◌, nat_le, take, get_or, add-one, length}
use Rattle.std.proofs.lemmas.Bool.Decides.{nat_tests}
use Rattle.std.proofs.lemmas.List.Folds.{list_all-append}
use Rattle.std.specs.List.{list_all}
use Rattle.sled_nodes.specs.Order.{Key}
use Rattle.std.proofs.Math.Seq.{take-suc}
use Rattle.sled_nodes.proofs.Basics.{first_true, second_true, and_true}

pub all_push : {X : Type 0} (p : X → Bool) (xs : List X) (x : X) → list_all p xs ≡ true → p x ≡ true → list_all p (xs ++ x ∷ []) ≡ true
all_push p xs x e f = list_all-append p xs (x ∷ []) ∙ and_true _ _ e (and_true _ _ f refl)

pub all_front : {X : Type 0} (p : X → Bool) (xs ys : List X) (x : X) → ys ≡ xs ++ x ∷ [] → list_all p ys ≡ true → (list_all p xs ≡ true) × (p x ≡ true)
all_front p xs ys x l e =
    let all : (list_all p xs && (p x && true)) ≡ true = sym (list_all-append p xs (x ∷ [])) ∙ (ap (list_all p) (sym l) ∙ e) in
    (first_true _ _ all, first_true _ _ (second_true (list_all p xs) _ all))

pub all_weaker : {X : Type 0} (p q : X → Bool) → ((x : X) → p x ≡ true → q x ≡ true) → (xs : List X) → list_all p xs ≡ true → list_all q xs ≡ true
all_weaker p q h [] e = refl
all_weaker p q h (x ∷ xs) e = and_true _ _ (h x (first_true _ _ e)) (all_weaker p q h xs (second_true (p x) _ e))

-- numbers that stay below a bound
pub le_is : (a b : ℕ) → a ≤ b → nat_le a b ≡ true
le_is a b h = grind (arith, nat_tests)

pub le_later : (p a b : ℕ) → a ≤ b → nat_le p a ≡ true → nat_le p b ≡ true
le_later p a b h e = grind (arith, nat_tests)

pub le_more : (es : List (Key × ℕ)) (i a b : ℕ) (d : Key × ℕ) → i < length es → a ≤ b → (get_or es i d).1 ≤ b → list_all (λ e. nat_le e.1 a) (take i es) ≡ true → list_all (λ e. nat_le e.1 b) (take (i + 1) es) ≡ true
le_more es i a b d h l k e = rw add-one (ap (list_all (λ x. nat_le x.1 b)) (take-suc es i d h)
    ∙ all_push (λ x. nat_le x.1 b) (take i es) (get_or es i d) (all_weaker (λ x. nat_le x.1 a) (λ x. nat_le x.1 b) (λ x. le_later x.1 a b l) (take i es) e) (le_is _ _ k))

-- the first i numbers and the next one
pub le_front : (es : List (Key × ℕ)) (i n : ℕ) (d : Key × ℕ) → i < length es → list_all (λ e. nat_le e.1 n) (take (i + 1) es) ≡ true → (list_all (λ e. nat_le e.1 n) (take i es) ≡ true) × ((get_or es i d).1 ≤ n)
le_front es i n d h e =
    let front = all_front (λ x. nat_le x.1 n) (take i es) (take (i + 1) es) (get_or es i d) (rw add-one (take-suc es i d h)) e in
    (front.0, grind (arith, nat_tests, front.1))
