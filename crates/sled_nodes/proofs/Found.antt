-- The first and the last that pass, as a walk from the front finds them.
use Rattle.std.proofs.Common.{◌≡◌, ℕ, zero, suc, ◌+◌, ◌-◌, ◌<◌, Bool, true, false, nat_eq, List, [], ◌∷◌, ◌++◌, length, take, drop, get_or, Option, Some, None, refl, sym, ap, subst, ◌∙◌, arith, append_assoc, length-append, add-one, drop-cons, MatchOption}
use mathlib.Core.Bool.{true≢false}
use Rattle.std.proofs.lemmas.Bool.{eqb-true}
use Rattle.std.proofs.Math.ListN.{get_or-append}
use Rattle.std.specs.declared.ops.Bound.{Bound}
use Rattle.std.specs.List.{list_any}
use Rattle.std.proofs.lemmas.List.{length-take-le}
use Rattle.std.proofs.lemmas.List.Folds.{list_any-append}
use Rattle.std.proofs.Math.Seq.{take-suc, take-length, get_or-append_seam}
use Rattle.std.proofs.lemmas.List.{take-append-drop}
use Rattle.sled_nodes.proofs.Basics.{first_false, or_false}
use Rattle.sled_nodes.specs.Order.{Key}
use Rattle.std.proofs.lemmas.List.{get_or_default}
use Rattle.std.proofs.lemmas.Option.{slice_get-get_or}
use Rattle.std.specs.List.{slice_get}
use Rattle.sled_nodes.specs.Among.{is_up_to, IsFirst, IsLast, IsPointer, IsBefore}
use Rattle.sled_nodes.specs.theory.Places.{IsFirstAt, IsLastAt}

module _ {X : Type 0} (p : X → Bool) where
  -- none so far, and not the next one
  pub none_more : (xs : List X) (i : ℕ) (d : X) → i < length xs → list_any p (take i xs) ≡ false → p (get_or xs i d) ≡ false → list_any p (take (i + 1) xs) ≡ false
  none_more xs i d h e f = rw add-one (ap (list_any p) (take-suc xs i d h) ∙ (list_any-append p (take i xs) (get_or xs i d ∷ []) ∙ or_false _ _ e (or_false _ _ f refl)))

  pub none_all : (xs : List X) → list_any p (take (length xs) xs) ≡ false → list_any p xs ≡ false
  none_all xs e = ap (list_any p) (sym (take-length xs)) ∙ e

  -- the first
  pub first_found : (xs : List X) (i : ℕ) (d : X) → i < length xs → list_any p (take i xs) ≡ false → p (get_or xs i d) ≡ true → IsFirstAt p xs i
  first_found xs i d h e f = record {
    x = get_or xs i d;
    first = record {
      before = take i xs;
      after = drop (suc i) xs;
      is = sym (take-append-drop i xs) ∙ ap (λ r. take i xs ++ r) (drop-cons xs i d h);
      passed = f;
      none = e;
    };
    place = length-take-le i xs (omega arith);
  }

  -- the last so far
  pub last_here : (xs : List X) (i : ℕ) (d : X) → i < length xs → p (get_or xs i d) ≡ true → IsLastAt p (take (i + 1) xs) i
  last_here xs i d h f = rw add-one (record {
    x = get_or xs i d;
    last = record { before = take i xs; after = []; is = take-suc xs i d h; passed = f; none = refl };
    place = length-take-le i xs (omega arith);
  })

  pub last_stays : (xs : List X) (i j : ℕ) (d : X) → i < length xs → p (get_or xs i d) ≡ false → IsLastAt p (take i xs) j → IsLastAt p (take (i + 1) xs) j
  last_stays xs i j d h f l = rw add-one (record {
    x = l.x;
    last = record {
      before = l.last.before;
      after = l.last.after ++ get_or xs i d ∷ [];
      is = take-suc xs i d h ∙ (ap (λ r. r ++ get_or xs i d ∷ []) l.last.is ∙ append_assoc l.last.before (l.x ∷ l.last.after) (get_or xs i d ∷ []));
      passed = l.last.passed;
      none = list_any-append p l.last.after (get_or xs i d ∷ []) ∙ or_false _ _ l.last.none (or_false _ _ f refl);
    };
    place = l.place;
  })

  pub last_all : (xs : List X) (j : ℕ) → IsLastAt p (take (length xs) xs) j → IsLastAt p xs j
  last_all xs j l = subst (λ (ys : List X). IsLastAt p ys j) (take-length xs) l

  -- what stands at the place
  pub last_in : (xs : List X) (i : ℕ) → IsLastAt p xs i → i < length xs
  last_in xs i l = let e : length xs ≡ length l.last.before + length (l.x ∷ l.last.after) = ap length l.last.is ∙ length-append l.last.before (l.x ∷ l.last.after) in let k = l.place in omega arith

  pub first_in : (xs : List X) (i : ℕ) → IsFirstAt p xs i → i < length xs
  first_in xs i l = let e : length xs ≡ length l.first.before + length (l.x ∷ l.first.after) = ap length l.first.is ∙ length-append l.first.before (l.x ∷ l.first.after) in let k = l.place in omega arith

  pub last_is : (xs : List X) (i : ℕ) (d : X) (l : IsLastAt p xs i) → get_or xs i d ≡ l.x
  last_is xs i d l = ap (λ ys. get_or ys i d) l.last.is ∙ (ap (λ n. get_or (l.last.before ++ l.x ∷ l.last.after) n d) (sym l.place) ∙ get_or-append_seam l.last.before l.x l.last.after d)

  pub first_is : (xs : List X) (i : ℕ) (d : X) (l : IsFirstAt p xs i) → get_or xs i d ≡ l.x
  first_is xs i d l = ap (λ ys. get_or ys i d) l.first.is ∙ (ap (λ n. get_or (l.first.before ++ l.x ∷ l.first.after) n d) (sym l.place) ∙ get_or-append_seam l.first.before l.x l.first.after d)

  -- what the walk has found so far
  abbrev pub Walked : List X → Option ℕ → Type 0
  Walked xs found = MatchOption found (list_any p xs ≡ false) (IsLastAt p xs)

  pub walked_here : (xs : List X) (i : ℕ) (d : X) (new : Option ℕ) → i < length xs → new ≡ Some i → p (get_or xs i d) ≡ true → Walked (take (i + 1) xs) new
  walked_here xs i d new h e f = rw e (last_here xs i d h f)

  pub walked_on : (xs : List X) (i : ℕ) (d : X) (found new : Option ℕ) → i < length xs → new ≡ found → p (get_or xs i d) ≡ false → Walked (take i xs) found → Walked (take (i + 1) xs) new
  walked_on xs i d None new h e f w = rw e (none_more xs i d h w f)
  walked_on xs i d (Some j) new h e f w = rw e (last_stays xs i j d h f w)

  pub walked_all : (xs : List X) (i : ℕ) (found : Option ℕ) → i ≡ length xs → Walked (take i xs) found → Walked xs found
  walked_all xs i None e w = none_all xs (ap (λ n. list_any p (take n xs)) (sym e) ∙ w)
  walked_all xs i (Some j) e w = last_all xs j (subst (λ (n : ℕ). IsLastAt p (take n xs) j) e w)

-- the entry that was found
pub first_entry : {X : Type 0} (p : X → Bool) (es : List X) (i : ℕ) (e : X) → IsFirstAt p es i → ((d : X) → get_or es i d ≡ e) → IsFirst p es e
first_entry p es i e l h = subst (λ x. IsFirst p es x) (sym (first_is p es i e l) ∙ h e) l.first

pub last_entry : {X : Type 0} (p : X → Bool) (es : List X) (i : ℕ) (e : X) → IsLastAt p es i → ((d : X) → get_or es i d ≡ e) → IsLast p es e
last_entry p es i e l h = subst (λ x. IsLast p es x) (sym (last_is p es i e l) ∙ h e) l.last

-- it stands at its place
pub placed : {X : Type 0} (es : List X) (i : ℕ) (e : X) → i < length es → ((d : X) → get_or es i d ≡ e) → slice_get es i ≡ Some e
placed es i e l h = slice_get-get_or es i e l ∙ ap Some (h e)

pub pointer_is : (bound : Bound Key) (es : List (Key × ℕ)) (i c : ℕ) → ((d : Key × ℕ) → (get_or es i d).1 ≡ c) → IsLastAt (λ x. is_up_to bound x.0) es i → IsPointer bound es c (nat_eq i 0)
pointer_is bound es i c h l =
    let same : l.x.1 ≡ c = ap (λ (e : Key × ℕ). e.1) (sym (last_is (λ x. is_up_to bound x.0) es i l.x l)) ∙ h l.x in
    subst (λ (b : ℕ). IsPointer bound es b (nat_eq i 0)) same (record { key = l.x.0; last = l.last; is_first = ap (λ n. nat_eq n 0) (sym l.place) })

-- the one before it
last_of : (xs : List (Key × ℕ)) (j : ℕ) (d : Key × ℕ) → length xs ≡ suc j → xs ≡ take j xs ++ get_or xs j d ∷ []
last_of xs j d e = sym (take-length xs) ∙ (ap (λ n. take n xs) e ∙ take-suc xs j d (omega arith))

before_at : (c : ℕ) (es : List (Key × ℕ)) (i j : ℕ) (e : Key × ℕ) → i ≡ suc j → e ≡ get_or es j e → IsFirstAt (λ x. nat_eq x.1 c) es i → IsBefore c es e.1
before_at c es i j e k g l =
    let xs : List (Key × ℕ) = l.first.before in
    let n : length xs ≡ suc j = l.place ∙ k in
    let b : get_or xs j e ≡ e = sym (ap (λ ys. get_or ys j e) l.first.is ∙ get_or-append xs (l.x ∷ l.first.after) e j (omega arith)) ∙ sym g in
    let split : xs ≡ take j xs ++ e ∷ [] = last_of xs j e n ∙ ap (λ y. take j xs ++ y ∷ []) b in
    record {
      front = take j xs;
      low = e.0;
      key = l.x.0;
      after = l.first.after;
      is = l.first.is ∙ (ap (λ ys. ys ++ l.x ∷ l.first.after) split ∙ ap (λ p. (take j xs ++ e ∷ []) ++ (l.x.0, p) ∷ l.first.after) (eqb-true l.x.1 c l.first.passed));
      none = ap (list_any (λ x. nat_eq x.1 c)) (sym split) ∙ l.first.none;
    }

pub before_is : (c b : ℕ) (es : List (Key × ℕ)) (i : ℕ) → (i ≡ 0 → ⊥) → ((d : Key × ℕ) → (get_or es (i - 1) d).1 ≡ b) → IsFirstAt (λ x. nat_eq x.1 c) es i → IsBefore c es b
before_is c b es zero k h l = absurd (k refl)
before_is c b es (suc j) k h l =
    let m : suc j - 1 ≡ j = omega arith in
    let e : Key × ℕ = get_or es j l.x in
    let within : suc j < length es = first_in (λ x. nat_eq x.1 c) es (suc j) l in
    let same : e.1 ≡ b = ap (λ (n : ℕ). (get_or es n l.x).1) (sym m) ∙ h l.x in
    subst (λ (n : ℕ). IsBefore c es n) same (before_at c es (suc j) j e refl (get_or_default es j l.x e (omega (arith, within))) l)

-- none stands before the first
head_or : Key × ℕ → List (Key × ℕ) → Key × ℕ
head_or d [] = d
head_or d (x ∷ xs) = x

same_head : (x y : Key × ℕ) (xs ys : List (Key × ℕ)) → x ∷ xs ≡ y ∷ ys → x ≡ y
unfolding head_or
same_head x y xs ys e = ap (head_or x) e

no_before : (c b : ℕ) (x : Key × ℕ) (es before after front rest : List (Key × ℕ)) (low : Key) → before ≡ [] → es ≡ before ++ x ∷ after → es ≡ (front ++ (low, b) ∷ []) ++ rest → nat_eq x.1 c ≡ true → list_any (λ e. nat_eq e.1 c) (front ++ (low, b) ∷ []) ≡ false → ⊥
no_before c b x es before after [] rest low n is is' p none =
    let h : x ≡ (low, b) = same_head x (low, b) after rest (sym (is ∙ ap (λ ys. ys ++ x ∷ after) n) ∙ is') in
    true≢false (sym p ∙ (ap (λ (y : Key × ℕ). nat_eq y.1 c) h ∙ first_false (nat_eq b c) false none))
no_before c b x es before after (f ∷ front) rest low n is is' p none =
    let h : x ≡ f = same_head x f after ((front ++ (low, b) ∷ []) ++ rest) (sym (is ∙ ap (λ ys. ys ++ x ∷ after) n) ∙ is') in
    true≢false (sym p ∙ (ap (λ (y : Key × ℕ). nat_eq y.1 c) h ∙ first_false (nat_eq f.1 c) (list_any (λ e. nat_eq e.1 c) (front ++ (low, b) ∷ [])) none))

nothing : (xs : List (Key × ℕ)) → length xs ≡ 0 → xs ≡ []
nothing [] e = refl
nothing (x ∷ xs) e = absurd (omega (arith, e))

pub none_before : (c : ℕ) (es : List (Key × ℕ)) (i : ℕ) → i ≡ 0 → IsFirstAt (λ x. nat_eq x.1 c) es i → (b : ℕ) → IsBefore c es b → ⊥
none_before c es i k l b h = no_before c b l.x es l.first.before l.first.after h.front ((h.key, c) ∷ h.after) h.low (nothing l.first.before (l.place ∙ k)) l.first.is h.is l.first.passed h.none
