-- Entries behind the bytes that all their keys begin with.
use Rattle.std.proofs.Common.{◌≡◌, ℕ, zero, suc, ◌<◌, ◌≤◌, ◌-◌, Bool, true, false, not, ◌&&◌, List, [], ◌∷◌, ◌++◌, length, take, drop, get_or, Some, sym, refl, ap, ap₂, subst, ◌∙◌, ◌⊎◌, inl, inr, arith, Ordering, Less, Equal, Greater, is_lt, is_eq, is_gt}
use Rattle.std.proofs.lemmas.Bool.{cases_eq}
use Rattle.std.specs.List.{All}
use Rattle.std.specs.Ordering.{nat_cmp, ordering_then, ordering_reverse}
use Rattle.std.specs.FinMap.Entries.{is_sorted, below_all}
use Rattle.std.specs.Cmp.Lexicographic.{slice_cmp}
use Rattle.sled_nodes.specs.Order.{Key, key_cmp, Below, UpTo}
use Rattle.sled_nodes.specs.Node.{Within}
use Rattle.sled_nodes.specs.Prefix.{prefix_of, rests_of, behind}
use Rattle.sled_nodes.proofs.Basics.{key_same, key_total}
use Rattle.sled_nodes.proofs.Prefixes.{cut_more, behind_nothing, cmp_behind}
use Rattle.sled_nodes.proofs.Behind.{length_behind}
use Rattle.sled_nodes.proofs.Rising.{rises}
use Rattle.sled_store.specs.In.{In}
use Rattle.tree_laws.specs.Forest.{later, first_key}
use Rattle.tree_laws.proofs.Order.{below-trans, upto_below-trans, upto-below}

-- ---- a key in two parts

-- what is shorter than the first part is compared to that alone
pub cmp_short : (p r k : Key) → length k < length p → slice_cmp nat_cmp p k ≡ slice_cmp nat_cmp (p ++ r) k
cmp_short [] r k h = absurd (omega (arith, h))
cmp_short (x ∷ xs) r [] h = refl
cmp_short (x ∷ xs) r (y ∷ ys) h = ap (ordering_then (nat_cmp x y)) (cmp_short xs r ys (omega (arith, h)))

then_then : (a b c : Ordering) → ordering_then (ordering_then a b) c ≡ ordering_then a (ordering_then b c)
then_then Less b c = refl
then_then Equal b c = refl
then_then Greater b c = refl

cmp_long : (p r k : Key) → length p ≤ length k → ordering_then (slice_cmp nat_cmp p (take (length p) k)) (slice_cmp nat_cmp r (drop (length p) k)) ≡ slice_cmp nat_cmp (p ++ r) k
cmp_long [] r k h = refl
cmp_long (x ∷ xs) r [] h = absurd (omega (arith, h))
cmp_long (x ∷ xs) r (y ∷ ys) h = then_then (nat_cmp x y) _ _ ∙ ap (ordering_then (nat_cmp x y)) (cmp_long xs r ys (omega (arith, h)))

pub cmp_first : (p r k : Key) (o : Ordering) → length p ≤ length k → o ≡ slice_cmp nat_cmp p (take (length p) k) → is_eq o ≡ false → o ≡ slice_cmp nat_cmp (p ++ r) k
cmp_first p r k o h e n = by o n ∙ (ap (λ a. ordering_then a (slice_cmp nat_cmp r (drop (length p) k))) e ∙ cmp_long p r k h)
  where
    by : (a : Ordering) → is_eq a ≡ false → a ≡ ordering_then a (slice_cmp nat_cmp r (drop (length p) k))
    by Less m = refl
    by Equal m = cc
    by Greater m = refl

pub cmp_rest : (p r k : Key) (o : Ordering) → length p ≤ length k → o ≡ slice_cmp nat_cmp p (take (length p) k) → is_eq o ≡ true → slice_cmp nat_cmp r (drop (length p) k) ≡ slice_cmp nat_cmp (p ++ r) k
cmp_rest p r k o h e n = by o n ∙ (ap (λ a. ordering_then a (slice_cmp nat_cmp r (drop (length p) k))) e ∙ cmp_long p r k h)
  where
    by : (a : Ordering) → is_eq a ≡ true → slice_cmp nat_cmp r (drop (length p) k) ≡ ordering_then a (slice_cmp nat_cmp r (drop (length p) k))
    by Less m = cc
    by Equal m = refl
    by Greater m = cc

-- what is not below a bound is at or above it
pub not_below : (x lo : Key) (o : Ordering) (b : Bool) → o ≡ slice_cmp nat_cmp x lo → b ≡ is_lt o → not b ≡ true → UpTo lo x
unfolding key_cmp
not_below x lo o b e f h = ap is_gt (key_total.antisymm lo x) ∙ by (slice_cmp nat_cmp x lo) (sym (ap not (f ∙ ap is_lt e)) ∙ h)
  where
    by : (a : Ordering) → not (is_lt a) ≡ true → is_gt (ordering_reverse a) ≡ false
    by Less m = cc
    by Equal m = refl
    by Greater m = refl

-- ---- entries

module _ {X : Type 0} where
  below_behind : (p k : Key) (es : List (Key × X)) → below_all (slice_cmp nat_cmp) (p ++ k) (behind p es) ≡ below_all (slice_cmp nat_cmp) k es
  below_behind p k [] = refl
  below_behind p k (e ∷ es) = ap₂ (λ o b. is_lt o && b) (cmp_behind p k e.0) (below_behind p k es)

  pub sorted_behind : (p : Key) (es : List (Key × X)) → is_sorted (slice_cmp nat_cmp) (behind p es) ≡ is_sorted (slice_cmp nat_cmp) es
  sorted_behind p [] = refl
  sorted_behind p (e ∷ es) = ap₂ (λ a b. a && b) (below_behind p e.0 es) (sorted_behind p es)

  -- the entries are their rests behind their prefix
  whole : (es : List (Key × X)) → behind (prefix_of es) (rests_of es) ≡ es
  whole es = cut_more [] (prefix_of es) (length (prefix_of es)) es refl refl ∙ behind_nothing es

  pub whole_of : (es rests : List (Key × X)) (p : Key) → p ≡ prefix_of es → rests ≡ rests_of es → behind p rests ≡ es
  whole_of es rests p e f = ap₂ behind e f ∙ whole es

  any : (es : List (Key × X)) (i : ℕ) (c d : Key × X) → i < length es → get_or es i c ≡ get_or es i d
  any [] i c d h = absurd (omega (arith, h))
  any (e ∷ es) zero c d h = refl
  any (e ∷ es) (suc i) c d h = any es i c d (omega (arith, h))

  at_behind : (p : Key) (es : List (Key × X)) (i : ℕ) (d c : Key × X) → i < length es → (get_or (behind p es) i d).0 ≡ p ++ (get_or es i c).0
  at_behind p [] i d c h = absurd (omega (arith, h))
  at_behind p (e ∷ es) zero d c h = refl
  at_behind p (e ∷ es) (suc i) d c h = at_behind p es i d c (omega (arith, h))

  below_at : (p : Key) (es : List (Key × X)) (i j : ℕ) (c : Key × X) → is_sorted (slice_cmp nat_cmp) es ≡ true → i < j → j < length es → Below (p ++ (get_or es i c).0) (p ++ (get_or es j c).0)
  unfolding key_cmp
  below_at p es i j c s l h = cmp_behind p (get_or es i c).0 (get_or es j c).0 ∙ rises (slice_cmp nat_cmp) es i j c s l h

  -- where keys ascend the first and the last of them tell of all
  pub all_within : (p lo hi : Key) (es : List (Key × X)) (n : ℕ) (first last : Key × X) → n ≡ length es - 1 → is_sorted (slice_cmp nat_cmp) es ≡ true →
      UpTo lo (p ++ (get_or es 0 first).0) → (hi ≡ []) ⊎ Below (p ++ (get_or es n last).0) hi → All (λ e. Within lo hi e.0) (behind p es)
  all_within p lo hi es n first last e s from below i d h =
      subst (Within lo hi) (sym (at_behind p es i d first within)) (up, down)
    where
      within : i < length es
      within = subst (λ m. i < m) (length_behind p es) h

      up : UpTo lo (p ++ (get_or es i first).0)
      up = elim (cases_eq i 0) [
        | inl z ↦ subst (λ k. UpTo lo (p ++ k.0)) (ap (λ j. get_or es j first) (sym z)) from
        | inr o ↦ upto-below lo (p ++ (get_or es i first).0) (upto_below-trans lo (p ++ (get_or es 0 first).0) (p ++ (get_or es i first).0) from (below_at p es 0 i first s (omega (arith, o)) within))
      ]

      to_last : Below (p ++ (get_or es n last).0) hi → Below (p ++ (get_or es i first).0) hi
      to_last b = elim (cases_eq i n) [
        | inl z ↦ subst (λ k. Below (p ++ k.0) hi) (ap (λ j. get_or es j last) (sym z) ∙ any es i last first within) b
        | inr o ↦ below-trans (p ++ (get_or es i first).0) (p ++ (get_or es n last).0) hi (subst (λ k. Below (p ++ (get_or es i first).0) (p ++ k.0)) (any es n first last (omega (arith, within, e))) (below_at p es i n first s (omega (arith, o, within, e)) (omega (arith, within, e)))) b
      ]

      down : (hi ≡ []) ⊎ Below (p ++ (get_or es i first).0) hi
      down = elim below [ inl z ↦ inl z | inr b ↦ inr (to_last b) ]

-- ---- pointers

in_behind : (p k : Key) (c : ℕ) (es : List (Key × ℕ)) → In (k, c) es → In (p ++ k, c) (behind p es)
in_behind p k c [] i = i
in_behind p k c (e ∷ es) (inl q) = inl (ap (λ x. (p ++ x.0, x.1)) q)
in_behind p k c (e ∷ es) (inr i) = inr (in_behind p k c es i)

pub later_behind : (p k : Key) (c : ℕ) (es : List (Key × ℕ)) → In (k, c) (later es) → In (p ++ k, c) (later (behind p es))
later_behind p k c [] i = i
later_behind p k c (e ∷ es) i = in_behind p k c es i

pub first_behind : (p lo : Key) (es : List (Key × ℕ)) (e : Key × ℕ) (o : Ordering) (b : Bool) → e ≡ get_or es 0 e → (length es ≡ 0 → ⊥) → o ≡ slice_cmp nat_cmp (p ++ e.0) lo → b ≡ is_eq o → b ≡ true → first_key (behind p es) ≡ Some lo
unfolding key_cmp
first_behind p lo [] e o b g h q f t = absurd (h refl)
first_behind p lo (x ∷ es) e o b g h q f t = ap Some (ap (λ z. p ++ z.0) (sym g) ∙ key_same (p ++ e.0) lo (sym q ∙ equal o (sym f ∙ t)))
  where
    equal : (a : Ordering) → is_eq a ≡ true → a ≡ Equal
    equal Less m = cc
    equal Equal m = refl
    equal Greater m = cc
