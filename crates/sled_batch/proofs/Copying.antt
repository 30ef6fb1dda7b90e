-- A list whose keys rise is made again by putting its entries in one after the other.
use Rattle.std.proofs.Common.{◌≡◌, true, List, [], ◌∷◌, ◌++◌, append_assoc, append-nil, Option, Ordering, Less, Equal, Greater, is_lt, refl, sym, ap, subst, ◌∙◌}
use Rattle.std.specs.FinMap.Entries.{by_order, put, is_sorted, below_all}
use Rattle.std.specs.Ordering.{ordering_reverse}
use Rattle.std.specs.Cmp.{IsTotalOrder}
use Rattle.std.specs.Cmp.Lexicographic.{nat_list_cmp_total}
use Rattle.sled_nodes.proofs.Basics.{first_true, second_true}
use Rattle.sled_nodes.specs.Order.{Key, key_cmp}
use Rattle.sled_batch.specs.Batch.{Writes, Rises}

-- what stands below all entries stands below the first of a later part
below_later : {K X : Type 0} (R : K → K → Ordering) (x : K) (es : List (K × X)) (e : K × X) (rest : List (K × X)) → below_all R x (es ++ e ∷ rest) ≡ true → is_lt (R x e.0) ≡ true
below_later R x [] e rest h = first_true _ _ h
below_later R x (d ∷ es) e rest h = below_later R x es e rest (second_true _ _ h)

turned : (r : Ordering) → is_lt r ≡ true → ordering_reverse r ≡ Greater
turned Less h = refl
turned Equal h = cc
turned Greater h = cc

above : {K : Type 0} (R : K → K → Ordering) (o : IsTotalOrder R) (x y : K) → is_lt (R x y) ≡ true → R y x ≡ Greater
above R o x y h = o.antisymm y x ∙ turned (R x y) h

put_last : {K X : Type 0} (R : K → K → Ordering) (o : IsTotalOrder R) (es : List (K × X)) (e : K × X) (rest : List (K × X)) → is_sorted R (es ++ e ∷ rest) ≡ true → put R e.0 e.1 es ≡ es ++ e ∷ []
put_last R o [] e rest h = refl
put_last R o (d ∷ es) e rest h =
    ap (λ r. by_order r (e ∷ d ∷ es) ((d.0, e.1) ∷ es) (d ∷ put R e.0 e.1 es)) (above R o d.0 e.0 (below_later R d.0 es e rest (first_true _ _ h)))
    ∙ ap (λ l. d ∷ l) (put_last R o es e rest (second_true _ _ h))

-- so far these were put in, and those are left
pub record SoFar (all copy left : Writes) : Type 0 where
  pub is : copy ++ left ≡ all

pub copied_on : (all copy new left : Writes) (k : Key) (v : Option Key) (more : Writes) → Rises all → SoFar all copy left → left ≡ (k, v) ∷ more → new ≡ put key_cmp k v copy → SoFar all new more
unfolding key_cmp
copied_on all copy new left k v more rises s e is = record {
  is =
      ap (λ l. l ++ more) (is ∙ put_last key_cmp nat_list_cmp_total copy (k, v) more (subst Rises (sym (ap (λ l. copy ++ l) (sym e) ∙ s.is)) rises))
      ∙ append_assoc copy ((k, v) ∷ []) more
      ∙ ap (λ l. copy ++ l) (sym e)
      ∙ s.is;
}

pub copied_all : (all copy left : Writes) → SoFar all copy left → left ≡ [] → copy ≡ all
copied_all all copy left s e = sym (append-nil copy) ∙ ap (λ l. copy ++ l) (sym e) ∙ s.is
