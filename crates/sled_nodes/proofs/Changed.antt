-- Entries behind a beginning that are changed by their rests.
use Rattle.std.proofs.Common.{◌≡◌, ℕ, List, [], ◌∷◌, ◌++◌, length, take, drop, Option, Some, Result, Ok, Err, OnOk, OnErr, not, ◌-◌, refl, sym, ap, subst, ◌∙◌}
use Rattle.std.specs.List.{remove}
use Rattle.std.specs.Cmp.Lexicographic.{slice_cmp}
use Rattle.std.specs.Ordering.{nat_cmp, eq_by_cmp}
use Rattle.std.specs.FinMap.Entries.{put, where_key}
use Rattle.std.proofs.lemmas.List.{length-drop}
use Rattle.std.proofs.Math.Seq.{take-length}
use Rattle.sled_nodes.specs.theory.Rising.{IsOut}
use Rattle.sled_nodes.specs.Order.{Key}
use Rattle.sled_nodes.specs.Prefix.{prefix_of, behind, IsStripped}
use Rattle.sled_nodes.specs.theory.Stripped.{IsRest}
use Rattle.sled_nodes.proofs.Prefixes.{prefix_is, put_stripped}
use Rattle.sled_nodes.proofs.Behind.{put_behind, remove_behind, take_behind, drop_behind}

module _ {X : Type 0} (p : Key) (es now : List (Key × X)) (h : IsStripped p es) (view : behind p es ≡ now) where
  pub prefix_here : prefix_of now ≡ p
  prefix_here = ap prefix_of (sym view) ∙ prefix_is p es h

  pub some_now : (es ≡ [] → ⊥) → now ≡ [] → ⊥
  some_now n e = n (nothing es (view ∙ e))
    where
      nothing : (xs : List (Key × X)) → behind p xs ≡ [] → xs ≡ []
      nothing [] e = refl
      nothing (x ∷ xs) e = cc

  module _ (k rest : Key) (r : IsRest now k rest) where
    key_is : k ≡ p ++ rest
    key_is = r.is ∙ ap (λ q. q ++ rest) prefix_here

    some_are : es ≡ [] → ⊥
    some_are e = r.some (sym view ∙ ap (behind p) e)

    pub put_stays : {Y E : Type 0} (v : X) (new : List (Key × X)) (a : Result Y E) → OnOk a (new ≡ put (slice_cmp nat_cmp) rest v es) → OnErr a (new ≡ es) → IsStripped p new
    put_stays v new (Ok y) e f = put_stripped p rest v es new some_are e h
    put_stays v new (Err x) e f = subst (λ (l : List (Key × X)). IsStripped p l) (sym f) h

    pub put_is : {Y E : Type 0} (v : X) (new : List (Key × X)) (a : Result Y E) → OnOk a (new ≡ put (slice_cmp nat_cmp) rest v es) → OnOk a (behind p new ≡ put (slice_cmp nat_cmp) k v now)
    put_is v new (Ok y) e = ap (behind p) e ∙ (sym (put_behind p k rest v es key_is) ∙ ap (put (slice_cmp nat_cmp) k v) view)
    put_is v new (Err x) e = tt

  pub removed_is : (i : ℕ) (new : List (Key × X)) → new ≡ remove es i → behind p new ≡ remove now i
  removed_is i new e = ap (behind p) e ∙ (sym (remove_behind p i es) ∙ ap (λ l. remove l i) view)

  pub part_is : (front : Key) (part made : List (Key × X)) → front ≡ p → made ≡ behind front part → made ≡ behind (prefix_of now) part
  part_is front part made e m = m ∙ ap (λ q. behind q part) (e ∙ sym prefix_here)

  pub taken_is : (n : ℕ) → behind (prefix_of now) (take n es) ≡ take n now
  taken_is n = ap (λ q. behind q (take n es)) prefix_here ∙ (sym (take_behind p n es) ∙ ap (take n) view)

  pub dropped_is : (n : ℕ) → behind (prefix_of now) (drop n es) ≡ drop n now
  dropped_is n = ap (λ q. behind q (drop n es)) prefix_here ∙ (sym (drop_behind p n es) ∙ ap (drop n) view)

-- the entries without a key that stands at one place
pub out_at : {X : Type 0} (k name : Key) (es : List (Key × X)) (found : Option ℕ) (i : ℕ) → name ≡ k → found ≡ Some i → IsOut (λ e. not (eq_by_cmp (slice_cmp nat_cmp) name e.0)) es found → where_key (slice_cmp nat_cmp) (λ x. not (eq_by_cmp (slice_cmp nat_cmp) k x)) es ≡ remove es i
out_at k name es found i e f h = (subst (λ (x : Key). IsOut (λ e. not (eq_by_cmp (slice_cmp nat_cmp) x e.0)) es (Some i)) e (subst (λ (o : Option ℕ). IsOut (λ e. not (eq_by_cmp (slice_cmp nat_cmp) name e.0)) es o) f h)).1

-- the rest of a list from a place on
pub rest_taken : {X : Type 0} (xs es : List X) (n m : ℕ) → xs ≡ es → n ≡ m → take (length xs - n) (drop n xs) ≡ drop m es
rest_taken xs es n m e f = ap (λ k. take k (drop n xs)) (sym (length-drop n xs)) ∙ (take-length (drop n xs) ∙ (ap (drop n) e ∙ ap (λ k. drop k es) f))

pub front_taken : {X : Type 0} (xs es : List X) (n m : ℕ) → xs ≡ es → n ≡ m → take n xs ≡ take m es
front_taken xs es n m e f = ap (take n) e ∙ ap (λ k. take k es) f
