-- What lies within the bounds of a prefix.
use Rattle.std.proofs.Common.{◌≡◌, ℕ, ◌+◌, ◌<◌, ◌≤◌, Bool, true, false, not, nat_lt, nat_eq, ◌&&◌, cond, List, [], ◌∷◌, ◌++◌, Option, Some, None, sym, refl, ap, ◌∙◌, subst, inl, inr, ◌⊎◌, arith}
use Rattle.sled_nodes.proofs.Basics.{second_true}
use Rattle.std.proofs.lemmas.Bool.{cases_order, lt-ltb, le-ltb, ne_eqb, eq-eqb}
use Rattle.std.proofs.lemmas.Cmp.{nat_cmp_total, tied_itself}
use Rattle.std.specs.List.{starts_with, AllByRecursion}
use Rattle.std.specs.Ordering.{nat_cmp, is_lt, ordering_then}
use Rattle.std.specs.Cmp.Lexicographic.{slice_cmp}
use Rattle.std.specs.declared.cmp.Ordering.TheVariants.{Equal}
use Rattle.std.specs.declared.ops.Bound.TheVariants.{Included, Excluded}
use Rattle.sled_nodes.specs.Order.{Key, key_cmp}
use Rattle.sled_nodes.specs.Among.{is_up_to, is_from}
use Rattle.sled_nodes.specs.Ranges.{is_reversed}
use Rattle.sled_nodes.proofs.Fronts.{cmp_less, cmp_greater}
use Rattle.tree_reads.specs.Ranges.{pairs_within}
use Rattle.tree_reads.specs.Prefixes.{IsBytes, or_raised, raised_key, below, raised, pairs_beginning, PrefixLaw}

-- the last byte is raised
pub raised_last : (bytes : Key) (last : ℕ) → last < 255 → raised_key (bytes ++ last ∷ []) ≡ Some (bytes ++ (last + 1) ∷ [])
raised_last [] last h = ap (λ b. cond b (Some ((last + 1) ∷ [])) None) (lt-ltb last 255 h)
raised_last (byte ∷ bytes) last h = ap (or_raised byte) (raised_last bytes last h)

-- or left out
pub raised_without : (bytes : Key) (last : ℕ) → 255 ≤ last → raised_key (bytes ++ last ∷ []) ≡ raised_key bytes
raised_without [] last h = ap (λ b. cond b (Some ((last + 1) ∷ [])) None) (le-ltb last 255 h)
raised_without (byte ∷ bytes) last h = ap (or_raised byte) (raised_without bytes last h)

abbrev begins : Key → Key → Bool
begins key prefix = starts_with nat_eq key prefix

-- whether a key lies from a prefix on and below an end
abbrev lies : Key → Option Key → Key → Bool
lies prefix end key = not (is_lt (slice_cmp nat_cmp key prefix)) && is_up_to (below end) key

equal : (b : ℕ) → nat_cmp b b ≡ Equal
equal b = tied_itself nat_cmp_total b

not_before : (key : Key) → is_lt (slice_cmp nat_cmp key []) ≡ false
not_before [] = refl
not_before (c ∷ key) = refl

-- the same byte before a key and before the end changes nothing
up_same : (b : ℕ) (key : Key) (end : Option Key) → is_up_to (below (or_raised b end)) (b ∷ key) ≡ is_up_to (below end) key
unfolding key_cmp
up_same b key (Some rest) = ap (λ o. is_lt (ordering_then o (slice_cmp nat_cmp key rest))) (equal b)
up_same b key None = go (nat_lt b 255)
  where
    go : (small : Bool) → is_up_to (below (cond small (Some ((b + 1) ∷ [])) None)) (b ∷ key) ≡ true
    go true = ap (λ o. is_lt (ordering_then o (slice_cmp nat_cmp key []))) (cmp_less b (b + 1) (omega arith))
    go false = refl

-- a higher byte lies beyond the end
up_past : (b c : ℕ) (key : Key) (end : Option Key) → b < c → c < 256 → is_up_to (below (or_raised b end)) (c ∷ key) ≡ false
unfolding key_cmp
up_past b c key (Some rest) h i = ap (λ o. is_lt (ordering_then o (slice_cmp nat_cmp key rest))) (cmp_greater c b h)
up_past b c key None h i = ap (λ small. is_up_to (below (cond small (Some ((b + 1) ∷ [])) None)) (c ∷ key)) (lt-ltb b 255 (omega arith)) ∙ go (cases_order c (b + 1))
  where
    go : (c ≡ b + 1) ⊎ ((c < b + 1) ⊎ (b + 1 < c)) → is_up_to (Excluded ((b + 1) ∷ [])) (c ∷ key) ≡ false
    go (inl e) = ap (λ o. is_lt (ordering_then o (slice_cmp nat_cmp key []))) (ap (λ n. nat_cmp n (b + 1)) e ∙ equal (b + 1)) ∙ not_before key
    go (inr (inl lt)) = absurd (omega arith)
    go (inr (inr gt)) = ap (λ o. is_lt (ordering_then o (slice_cmp nat_cmp key []))) (cmp_greater c (b + 1) gt)

lies_same : (b : ℕ) (rest key : Key) (end : Option Key) → lies (b ∷ rest) (or_raised b end) (b ∷ key) ≡ lies rest end key
lies_same b rest key end =
    ap (λ o. not (is_lt (ordering_then o (slice_cmp nat_cmp key rest))) && is_up_to (below (or_raised b end)) (b ∷ key)) (equal b)
    ∙ ap (λ up. not (is_lt (slice_cmp nat_cmp key rest)) && up) (up_same b key end)

-- a byte string lies within the bounds of a prefix exactly where it begins with it
lies_as : (prefix key : Key) → IsBytes key → lies prefix (raised_key prefix) key ≡ begins key prefix
lies_as [] key bytes = ap (λ before. not before && true) (not_before key)
lies_as (b ∷ rest) [] bytes = refl
lies_as (b ∷ rest) (c ∷ key) bytes = elim (cases_order b c) [
  | inl e ↦
      ap (λ n. lies (b ∷ rest) (raised_key (b ∷ rest)) (n ∷ key)) (sym e)
      ∙ lies_same b rest key (raised_key rest)
      ∙ lies_as rest key bytes.1
      ∙ sym (ap (λ first. first && begins key rest) (eq-eqb b c e))
  | inr o ↦ elim o [
    | inl lt ↦
        ap (λ o. not (is_lt (ordering_then o (slice_cmp nat_cmp key rest))) && is_up_to (below (raised_key (b ∷ rest))) (c ∷ key)) (cmp_greater c b lt)
        ∙ up_past b c key (raised_key rest) lt bytes.0
        ∙ sym (ap (λ first. first && begins key rest) (ne_eqb b c (λ (e : b ≡ c). omega arith)))
    | inr gt ↦
        ap (λ o. not (is_lt (ordering_then o (slice_cmp nat_cmp key rest))) && is_up_to (below (raised_key (b ∷ rest))) (c ∷ key)) (cmp_less c b gt)
        ∙ sym (ap (λ first. first && begins key rest) (ne_eqb b c (λ (e : b ≡ c). omega arith)))
  ]
]

pub prefix_law : PrefixLaw
unfolding key_cmp
prefix_law prefix key bytes = lies_as prefix key bytes

-- and what begins with it lies there, whatever its numbers are
lies_where : (prefix key : Key) → begins key prefix ≡ true → lies prefix (raised_key prefix) key ≡ true
lies_where [] key h = ap (λ before. not before && true) (not_before key)
lies_where (b ∷ rest) [] h = absurd cc
lies_where (b ∷ rest) (c ∷ key) h = elim (cases_order b c) [
  | inl e ↦
      ap (λ n. lies (b ∷ rest) (raised_key (b ∷ rest)) (n ∷ key)) (sym e)
      ∙ lies_same b rest key (raised_key rest)
      ∙ lies_where rest key (sym (ap (λ first. first && begins key rest) (eq-eqb b c e)) ∙ h)
  | inr o ↦ false_true (sym (ap (λ first. first && begins key rest) (ne_eqb b c (apart o))) ∙ h)
]
  where
    false_true : {X : Type 0} → false ≡ true → X
    false_true e = cc

    apart : (b < c) ⊎ (c < b) → b ≡ c → ⊥
    apart (inl lt) e = omega arith
    apart (inr gt) e = omega arith

-- the loop of `above_prefix`: what is left of the prefix is raised alike
pub raised_kept : (prefix bytes left : Key) (last : ℕ) → raised_key bytes ≡ raised_key prefix → bytes ≡ left ++ last ∷ [] → 255 ≤ last → raised_key left ≡ raised_key prefix
raised_kept prefix bytes left last e is full = sym (raised_without left last full) ∙ sym (ap raised_key is) ∙ e

pub raised_is : (prefix bytes left made : Key) (last : ℕ) → raised_key bytes ≡ raised_key prefix → bytes ≡ left ++ last ∷ [] → last < 255 → made ≡ left ++ (last + 1) ∷ [] → Excluded made ≡ raised prefix
raised_is prefix bytes left made last e is h new = ap below (ap Some new ∙ sym (raised_last left last h) ∙ sym (ap raised_key is) ∙ e)

-- a prefix stands before what it is raised to
pub not_reversed : (prefix : Key) → is_reversed (Included prefix) (raised prefix) ≡ false
not_reversed prefix = go (raised_key prefix) (second_true _ _ (lies_where prefix prefix (itself prefix)))
  where
    itself : (key : Key) → begins key key ≡ true
    itself [] = refl
    itself (b ∷ key) = ap (λ first. first && begins key key) (eq-eqb b b refl) ∙ itself key

    go : (end : Option Key) → is_up_to (below end) prefix ≡ true → is_reversed (Included prefix) (below end) ≡ false
    go None h = refl
    go (Some key) h = ap not h

module _ (prefix : Key) where
  abbrev all_in : List (Key × Key) → List (Key × Key)
  all_in map = pairs_within (Included prefix) (raised prefix) map

  abbrev lies_in : Key × Key → Bool
  lies_in e = is_from (Included prefix) e.0 && is_up_to (raised prefix) e.0

  -- a pair more, where the pairs behind it are the same
  one_more : (e : Key × Key) (map : List (Key × Key)) → (AllByRecursion (λ e. IsBytes e.0) (all_in map) → all_in map ≡ pairs_beginning prefix map) → AllByRecursion (λ e. IsBytes e.0) (all_in (e ∷ map)) → all_in (e ∷ map) ≡ pairs_beginning prefix (e ∷ map)
  unfolding key_cmp
  one_more e map more = go (lies_in e) (begins e.0 prefix) refl refl
    where
      true_false : {X : Type 0} → true ≡ false → X
      true_false e = cc

      go : (a b : Bool) → lies_in e ≡ a → begins e.0 prefix ≡ b → AllByRecursion (λ e. IsBytes e.0) (cond (lies_in e) (e ∷ all_in map) (all_in map)) → cond (lies_in e) (e ∷ all_in map) (all_in map) ≡ cond (begins e.0 prefix) (e ∷ pairs_beginning prefix map) (pairs_beginning prefix map)
      go true b f g bytes =
          let each = subst (λ a. AllByRecursion (λ e. IsBytes e.0) (cond a (e ∷ all_in map) (all_in map))) f bytes in
          ap (λ a. cond a (e ∷ all_in map) (all_in map)) f
          ∙ ap (λ rest. e ∷ rest) (more each.1)
          ∙ sym (ap (λ b. cond b (e ∷ pairs_beginning prefix map) (pairs_beginning prefix map)) (sym (prefix_law prefix e.0 each.0) ∙ f))
      go false true f g bytes = true_false (sym (lies_where prefix e.0 g) ∙ f)
      go false false f g bytes =
          ap (λ a. cond a (e ∷ all_in map) (all_in map)) f
          ∙ more (subst (λ a. AllByRecursion (λ e. IsBytes e.0) (cond a (e ∷ all_in map) (all_in map))) f bytes)
          ∙ sym (ap (λ b. cond b (e ∷ pairs_beginning prefix map) (pairs_beginning prefix map)) g)

  -- where the keys within the bounds of a prefix are byte strings, they are those that begin with it
  pub pairs_same : (map : List (Key × Key)) → AllByRecursion (λ e. IsBytes e.0) (all_in map) → all_in map ≡ pairs_beginning prefix map
  pairs_same [] bytes = refl
  pairs_same (e ∷ map) bytes = one_more e map (pairs_same map) bytes
