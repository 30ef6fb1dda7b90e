-- Entries behind a beginning of their keys, and what is found among them.
use Rattle.std.proofs.Common.{◌≡◌, ℕ, suc, ◌<◌, Bool, true, false, cond, ◌||◌, ◌&&◌, List, [], ◌∷◌, ◌++◌, length, take, drop, Option, Some, None, refl, sym, ap, subst, ◌∙◌, not, MatchOption, filter, IfSome}
use Rattle.std.proofs.lemmas.List.{take-map, length-map, map-append}
use Rattle.std.proofs.lemmas.Map.Text.{is_eq-slice_cmp}
use Rattle.std.proofs.lemmas.Slice.Eq.{bytes_eq-Decides}
use Rattle.std.specs.List.{remove, list_any, list_all, drop-map}
use Rattle.std.specs.Cmp.Lexicographic.{slice_cmp}
use Rattle.std.specs.Ordering.{nat_cmp, eq_by_cmp, is_eq}
use Rattle.std.specs.declared.cmp.Ordering.{Ordering}
use Rattle.std.specs.declared.cmp.Ordering.TheVariants.{Less, Equal, Greater}
use Rattle.std.specs.FinMap.Entries.{put, find, by_order}
use Rattle.sled_nodes.specs.Order.{Key}
use Rattle.sled_nodes.specs.Prefix.{behind}
use Rattle.sled_nodes.specs.theory.Places.{IsFirstAt, IsLastAt}
use Rattle.sled_nodes.specs.theory.Rising.{IsOut}
use Rattle.sled_nodes.proofs.Prefixes.{cmp_behind}

-- the test of two keys is that of their rests
same_test : (p k rest r : Key) → k ≡ p ++ rest → eq_by_cmp (slice_cmp nat_cmp) k (p ++ r) ≡ eq_by_cmp (slice_cmp nat_cmp) rest r
same_test p k rest r e = ap (λ x. is_eq (slice_cmp nat_cmp x (p ++ r))) e ∙ ap is_eq (cmp_behind p rest r)

other_test : (p k r : Key) → ((rest : Key) → k ≡ p ++ rest → ⊥) → eq_by_cmp (slice_cmp nat_cmp) k (p ++ r) ≡ false
other_test p k r n = by (eq_by_cmp (slice_cmp nat_cmp) k (p ++ r)) refl
  where
    by : (b : Bool) → eq_by_cmp (slice_cmp nat_cmp) k (p ++ r) ≡ b → b ≡ false
    by true e = absurd (n r ((bytes_eq-Decides k (p ++ r)).0 (sym (is_eq-slice_cmp k (p ++ r)) ∙ e)))
    by false e = refl

module _ {X : Type 0} where
  pub find_behind : (p k rest : Key) (es : List (Key × X)) → k ≡ p ++ rest → find (slice_cmp nat_cmp) k (behind p es) ≡ find (slice_cmp nat_cmp) rest es
  find_behind p k rest [] e = refl
  find_behind p k rest (x ∷ xs) e = ap (λ b. cond b (Some x.1) (find (slice_cmp nat_cmp) k (behind p xs))) (same_test p k rest x.0 e) ∙ ap (λ o. cond (eq_by_cmp (slice_cmp nat_cmp) rest x.0) (Some x.1) o) (find_behind p k rest xs e)

  pub find_other : (p k : Key) (es : List (Key × X)) → ((rest : Key) → k ≡ p ++ rest → ⊥) → find (slice_cmp nat_cmp) k (behind p es) ≡ None
  find_other p k [] n = refl
  find_other p k (x ∷ xs) n = ap (λ b. cond b (Some x.1) (find (slice_cmp nat_cmp) k (behind p xs))) (other_test p k x.0 n) ∙ find_other p k xs n

  -- a pair put in
  pub put_behind : (p k rest : Key) (v : X) (es : List (Key × X)) → k ≡ p ++ rest → put (slice_cmp nat_cmp) k v (behind p es) ≡ behind p (put (slice_cmp nat_cmp) rest v es)
  put_behind p k rest v [] e = ap (λ x. (x, v) ∷ []) e
  put_behind p k rest v (x ∷ xs) e =
      ap (λ y. put (slice_cmp nat_cmp) y v (behind p (x ∷ xs))) e
      ∙ (ap (λ o. by_order o ((p ++ rest, v) ∷ behind p (x ∷ xs)) ((p ++ x.0, v) ∷ behind p xs) ((p ++ x.0, x.1) ∷ put (slice_cmp nat_cmp) (p ++ rest) v (behind p xs))) (cmp_behind p rest x.0)
      ∙ by (put_behind p (p ++ rest) rest v xs refl) (slice_cmp nat_cmp rest x.0))
    where
      by : put (slice_cmp nat_cmp) (p ++ rest) v (behind p xs) ≡ behind p (put (slice_cmp nat_cmp) rest v xs) → (o : Ordering) → by_order o ((p ++ rest, v) ∷ behind p (x ∷ xs)) ((p ++ x.0, v) ∷ behind p xs) ((p ++ x.0, x.1) ∷ put (slice_cmp nat_cmp) (p ++ rest) v (behind p xs)) ≡ behind p (by_order o ((rest, v) ∷ x ∷ xs) ((x.0, v) ∷ xs) (x ∷ put (slice_cmp nat_cmp) rest v xs))
      by more Less = refl
      by more Equal = refl
      by more Greater = ap (λ l. (p ++ x.0, x.1) ∷ l) more

  -- by place
  pub length_behind : (p : Key) (es : List (Key × X)) → length (behind p es) ≡ length es
  length_behind p es = length-map es (λ e. (p ++ e.0, e.1))

  pub take_behind : (p : Key) (n : ℕ) (es : List (Key × X)) → take n (behind p es) ≡ behind p (take n es)
  take_behind p n es = take-map (λ e. (p ++ e.0, e.1)) n es

  pub drop_behind : (p : Key) (n : ℕ) (es : List (Key × X)) → drop n (behind p es) ≡ behind p (drop n es)
  drop_behind p n es = drop-map (λ e. (p ++ e.0, e.1)) n es

  pub append_behind : (p : Key) (xs ys : List (Key × X)) → behind p (xs ++ ys) ≡ behind p xs ++ behind p ys
  append_behind p xs ys = map-append (λ e. (p ++ e.0, e.1)) xs ys

  pub remove_behind : (p : Key) (i : ℕ) (es : List (Key × X)) → remove (behind p es) i ≡ behind p (remove es i)
  remove_behind p i es = ap (λ l. l ++ drop (suc i) (behind p es)) (take_behind p i es) ∙ (ap (λ l. behind p (take i es) ++ l) (drop_behind p (suc i) es) ∙ sym (append_behind p (take i es) (drop (suc i) es)))

  -- tests of keys
  module _ (p : Key) (q q' : Key → Bool) (same : (r : Key) → q (p ++ r) ≡ q' r) where
    any_behind : (es : List (Key × X)) → list_any (λ e. q e.0) (behind p es) ≡ list_any (λ e. q' e.0) es
    any_behind [] = refl
    any_behind (x ∷ xs) = ap (λ b. b || list_any (λ e. q e.0) (behind p xs)) (same x.0) ∙ ap (λ b. q' x.0 || b) (any_behind xs)

    pub filter_behind : (es : List (Key × X)) → filter (λ e. q e.0) (behind p es) ≡ behind p (filter (λ e. q' e.0) es)
    filter_behind [] = refl
    filter_behind (x ∷ xs) =
        ap (λ b. cond b ((p ++ x.0, x.1) ∷ filter (λ e. q e.0) (behind p xs)) (filter (λ e. q e.0) (behind p xs))) (same x.0)
        ∙ (ap (λ l. cond (q' x.0) ((p ++ x.0, x.1) ∷ l) l) (filter_behind xs) ∙ by (q' x.0))
      where
        by : (b : Bool) → cond b ((p ++ x.0, x.1) ∷ behind p (filter (λ e. q' e.0) xs)) (behind p (filter (λ e. q' e.0) xs)) ≡ behind p (cond b (x ∷ filter (λ e. q' e.0) xs) (filter (λ e. q' e.0) xs))
        by true = refl
        by false = refl

    pub first_behind : (es : List (Key × X)) (found : Option ℕ) → MatchOption found (list_any (λ e. q' e.0) es ≡ false) (IsFirstAt (λ e. q' e.0) es) → MatchOption found (list_any (λ e. q e.0) (behind p es) ≡ false) (IsFirstAt (λ e. q e.0) (behind p es))
    first_behind es None h = any_behind es ∙ h
    first_behind es (Some i) h = record {
      x = (p ++ h.x.0, h.x.1);
      first = record {
        before = behind p h.first.before;
        after = behind p h.first.after;
        is = ap (behind p) h.first.is ∙ append_behind p h.first.before (h.x ∷ h.first.after);
        passed = same h.x.0 ∙ h.first.passed;
        none = any_behind h.first.before ∙ h.first.none;
      };
      place = length_behind p h.first.before ∙ h.place;
    }

    pub last_behind : (es : List (Key × X)) (found : Option ℕ) → MatchOption found (list_any (λ e. q' e.0) es ≡ false) (IsLastAt (λ e. q' e.0) es) → MatchOption found (list_any (λ e. q e.0) (behind p es) ≡ false) (IsLastAt (λ e. q e.0) (behind p es))
    last_behind es None h = any_behind es ∙ h
    last_behind es (Some i) h = record {
      x = (p ++ h.x.0, h.x.1);
      last = record {
        before = behind p h.last.before;
        after = behind p h.last.after;
        is = ap (behind p) h.last.is ∙ append_behind p h.last.before (h.x ∷ h.last.after);
        passed = same h.x.0 ∙ h.last.passed;
        none = any_behind h.last.after ∙ h.last.none;
      };
      place = length_behind p h.last.before ∙ h.place;
    }

    pub none_behind : ((r : Key) → q' r ≡ false) → (es : List (Key × X)) → list_any (λ e. q e.0) (behind p es) ≡ false
    none_behind fails es = any_behind es ∙ nothing es
      where
        nothing : (es : List (Key × X)) → list_any (λ e. q' e.0) es ≡ false
        nothing [] = refl
        nothing (x ∷ xs) = ap (λ b. b || list_any (λ e. q' e.0) xs) (fails x.0) ∙ nothing xs

    out_by : (es : List (Key × X)) (found : Option ℕ) → IsOut (λ e. q' e.0) es found → IsOut (λ e. q e.0) (behind p es) found
    out_by es None h = filter_behind es ∙ ap (behind p) h
    out_by es (Some i) h = (subst (λ n. i < n) (sym (length_behind p es)) h.0, filter_behind es ∙ (ap (behind p) h.1 ∙ sym (remove_behind p i es)))

  -- a key that stands once, or nowhere
  pub out_behind : (p k rest : Key) (es : List (Key × X)) (found : Option (Option ℕ)) → k ≡ p ++ rest → IfSome found (IsOut (λ e. not (eq_by_cmp (slice_cmp nat_cmp) rest e.0)) es) → IfSome found (IsOut (λ e. not (eq_by_cmp (slice_cmp nat_cmp) k e.0)) (behind p es))
  out_behind p k rest es None e h = h
  out_behind p k rest es (Some found) e h = out_by p (λ x. not (eq_by_cmp (slice_cmp nat_cmp) k x)) (λ x. not (eq_by_cmp (slice_cmp nat_cmp) rest x)) (λ r. ap not (same_test p k rest r e)) es found h

  pub out_other : (p k : Key) (es : List (Key × X)) → ((rest : Key) → k ≡ p ++ rest → ⊥) → IsOut (λ e. not (eq_by_cmp (slice_cmp nat_cmp) k e.0)) (behind p es) None
  out_other p k es n = filter_behind p (λ x. not (eq_by_cmp (slice_cmp nat_cmp) k x)) (λ x. true) (λ r. ap not (other_test p k r n)) es ∙ ap (behind p) (all_kept es)
    where
      all_kept : (es : List (Key × X)) → filter (λ e. true) es ≡ es
      all_kept [] = refl
      all_kept (x ∷ xs) = ap (λ l. x ∷ l) (all_kept xs)

-- tests of what stands at the keys
module _ {X : Type 0} (p : Key) (q : X → Bool) where
  any_value : (es : List (Key × X)) → list_any (λ e. q e.1) (behind p es) ≡ list_any (λ e. q e.1) es
  any_value [] = refl
  any_value (x ∷ xs) = ap (λ b. q x.1 || b) (any_value xs)

  pub all_value : (es : List (Key × X)) → list_all (λ e. q e.1) (behind p es) ≡ list_all (λ e. q e.1) es
  all_value [] = refl
  all_value (x ∷ xs) = ap (λ b. q x.1 && b) (all_value xs)

  pub first_value : (es now : List (Key × X)) (found : Option ℕ) → behind p es ≡ now → MatchOption found (list_any (λ e. q e.1) es ≡ false) (IsFirstAt (λ e. q e.1) es) → MatchOption found (list_any (λ e. q e.1) now ≡ false) (IsFirstAt (λ e. q e.1) now)
  first_value es now None v h = ap (list_any (λ e. q e.1)) (sym v) ∙ (any_value es ∙ h)
  first_value es now (Some i) v h = subst (λ (l : List (Key × X)). IsFirstAt (λ e. q e.1) l i) v (record {
    x = (p ++ h.x.0, h.x.1);
    first = record {
      before = behind p h.first.before;
      after = behind p h.first.after;
      is = ap (behind p) h.first.is ∙ append_behind p h.first.before (h.x ∷ h.first.after);
      passed = h.first.passed;
      none = any_value h.first.before ∙ h.first.none;
    };
    place = length_behind p h.first.before ∙ h.place;
  })
