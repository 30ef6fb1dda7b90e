-- What many files of proofs need of options, tests, numbers, orders and results.
use Rattle.std.proofs.Common.{◌≡◌, ◌≢◌, ℕ, Bool, true, false, not, ◌&&◌, ◌||◌, T, cond, Some, None, Result, Ok, Err, IfOk, IfErr, IsTrue, ◌↔◌, Ordering, Less, Equal, Greater, is_lt, is_eq, is_gt, refl, ◌⊎◌, arith}
use Rattle.std.specs.Cmp.{IsTotalOrder}
use Rattle.std.specs.FinMap.{slice_cmp-IsAntisymmetric, nat_cmp-IsAntisymmetric}
use Rattle.std.specs.Ordering.{eq_by_cmp}
use Rattle.std.proofs.lemmas.Cmp.{nat_list_cmp_total}
use Rattle.sled_nodes.specs.Order.{Key, key_cmp}

-- ---- options

pub none_some : {P A : Type 0} {a : A} → None ≡ Some a → P
none_some e = cc

pub some_none : {P A : Type 0} {a : A} → Some a ≡ None → P
some_none e = cc

pub some_is : {A : Type 0} {a b : A} → Some a ≡ Some b → a ≡ b
some_is e = cc

-- ---- tests

pub false_true : {P : Type 0} → false ≡ true → P
false_true e = cc

pub true_false : {P : Type 0} → true ≡ false → P
true_false e = cc

pub not_true : (b : Bool) → not b ≡ true → b ≡ false
not_true true e = cc
not_true false e = refl

pub not_cond : {A : Type 0} (b : Bool) (x y : A) → cond (not b) x y ≡ cond b y x
not_cond true x y = refl
not_cond false x y = refl

-- what holds is true, and what is true holds
pub true_of : (b : Bool) → T b → b ≡ true
true_of true t = refl
true_of false t = absurd t

pub of_true : (b : Bool) → b ≡ true → T b
of_true true e = tt
of_true false e = cc

-- what is not true does not hold
pub untrue : {P : Type 0} (b : Bool) → IsTrue b ↔ P → b ≡ false → P → ⊥
untrue b told e p = apart b e (told.1 p)
  where
    apart : (b : Bool) → b ≡ false → IsTrue b → ⊥
    apart b e t = cc

-- both of two
pub left_of : (a b : Bool) → T (a && b) → T a
left_of true b t = tt
left_of false b t = t

pub right_of : (a b : Bool) → T (a && b) → T b
right_of true b t = t
right_of false b t = absurd t

pub both_of : (a b : Bool) → T a → T b → T (a && b)
both_of true b t u = u
both_of false b t u = absurd t

pub first_true : (a b : Bool) → (a && b) ≡ true → a ≡ true
first_true true b e = refl
first_true false b e = cc

pub second_true : (a b : Bool) → (a && b) ≡ true → b ≡ true
second_true true b e = e
second_true false b e = cc

pub and_true : (a b : Bool) → a ≡ true → b ≡ true → (a && b) ≡ true
and_true a b e f = rw (e, f) refl

pub both_true : (a b : Bool) → (a && b) ≡ true → (a ≡ true) × (b ≡ true)
both_true true b e = (refl, e)
both_true false b e = cc

pub first_off : (a b : Bool) → a ≡ false → (a && b) ≡ false
first_off a b e = rw e refl

pub second_off : (a b : Bool) → b ≡ false → (a && b) ≡ false
second_off true b e = e
second_off false b e = refl

-- neither of two
pub first_false : (a b : Bool) → (a || b) ≡ false → a ≡ false
first_false true b e = e
first_false false b e = refl

pub second_false : (a b : Bool) → (a || b) ≡ false → b ≡ false
second_false true b e = cc
second_false false b e = e

pub or_false : (a b : Bool) → a ≡ false → b ≡ false → (a || b) ≡ false
or_false true b e f = e
or_false false b e f = f

-- one of two
pub or_true : (b : Bool) → (b || true) ≡ true
or_true true = refl
or_true false = refl

-- ---- numbers

pub same_or_not : (a b : ℕ) → (a ≡ b) ⊎ (a ≢ b)
same_or_not a b = grind arith

-- ---- orders

pub is_less : (o : Ordering) → is_lt o ≡ true → o ≡ Less
is_less Less e = refl
is_less Equal e = cc
is_less Greater e = cc

pub is_greater : (o : Ordering) → is_gt o ≡ true → o ≡ Greater
is_greater Less e = cc
is_greater Equal e = cc
is_greater Greater e = refl

pub less_of : (o : Ordering) → T (is_lt o) → o ≡ Less
less_of Less t = refl
less_of Equal t = absurd t
less_of Greater t = absurd t

pub key_total : IsTotalOrder key_cmp
unfolding key_cmp
key_total = nat_list_cmp_total

pub key_same : (a b : Key) → key_cmp a b ≡ Equal → a ≡ b
unfolding key_cmp
key_same a b e = slice_cmp-IsAntisymmetric nat_cmp-IsAntisymmetric a b e

pub tied : (a b : Key) → eq_by_cmp key_cmp a b ≡ true → a ≡ b
tied a b e = key_same a b (go (key_cmp a b) e)
  where
    go : (o : Ordering) → is_eq o ≡ true → o ≡ Equal
    go Less e = cc
    go Equal e = refl
    go Greater e = cc

-- ---- results

pub ok_weaker : {A E : Type 0} (P Q : A → Type 0) → ((x : A) → P x → Q x) → (r : Result A E) → IfOk r P → IfOk r Q
ok_weaker P Q then (Ok x) is = then x is
ok_weaker P Q then (Err e) is = tt

pub err_weaker : {A E : Type 0} (P Q : E → Type 0) → ((e : E) → P e → Q e) → (r : Result A E) → IfErr r P → IfErr r Q
err_weaker P Q then (Ok x) is = tt
err_weaker P Q then (Err e) is = then e is
