-- The root of a name among the first of a list of roots.
use Rattle.std.proofs.Common.{◌≡◌, ◌≢◌, ℕ, zero, suc, ◌+◌, ◌<◌, Bool, true, false, cond, T, List, [], ◌∷◌, ◌++◌, length, get_or, take, Some, None, sym, refl, ap, ◌∙◌, subst, inl, inr, ◌⊎◌, arith, Ordering, Less, Equal, Greater, is_eq}
use Rattle.std.proofs.lemmas.List.{take_more}
use Rattle.std.specs.Ordering.{eq_by_cmp}
use Rattle.std.proofs.lemmas.Cmp.{tied_itself}
use Rattle.std.specs.FinMap.Entries.{find, is_sorted, below_all}
use Rattle.std.specs.Str.{bytes_eq}
use Rattle.std.specs.Bool.{Decides}
use Rattle.std.proofs.lemmas.Slice.Eq.{bytes_eq-Decides}
use Rattle.sled_nodes.proofs.Basics.{of_true, left_of, right_of, less_of, key_total, key_same, false_true}
use Rattle.sled_nodes.specs.Order.{Key, key_cmp}
use Rattle.tree_laws.proofs.Pairs.{above}

below_at : (x : Key) (es : List (Key × ℕ)) (i : ℕ) (d : Key × ℕ) → i < length es → T (below_all key_cmp x es) → key_cmp x (get_or es i d).0 ≡ Less
below_at x [] i d l t = absurd (omega (arith, l))
below_at x (e ∷ es) zero d l t = less_of _ (left_of _ _ t)
below_at x (e ∷ es) (suc i) d l t = below_at x es i d (omega (arith, l)) (right_of _ _ t)

absent_by : (es : List (Key × ℕ)) (i : ℕ) (d : Key × ℕ) → i < length es → T (is_sorted key_cmp es) → find key_cmp (get_or es i d).0 (take i es) ≡ None
absent_by [] i d l s = absurd (omega (arith, l))
absent_by (e ∷ es) zero d l s = refl
absent_by (e ∷ es) (suc i) d l s =
    let k : Key = (get_or es i d).0 in
    let greater : key_cmp k e.0 ≡ Greater = above e.0 k (below_at e.0 es i d (omega (arith, l)) (left_of _ _ s)) in
    subst (λ o. cond (is_eq o) (Some e.1) (find key_cmp k (take i es)) ≡ None) (sym greater) (absent_by es i d (omega (arith, l)) (right_of _ _ s))

-- no earlier root has the name of the i-th one
pub absent : (es : List (Key × ℕ)) (i : ℕ) (e : Key × ℕ) → i < length es → is_sorted key_cmp es ≡ true → e ≡ get_or es i e → find key_cmp e.0 (take i es) ≡ None
absent es i e l s is = subst (λ (z : Key × ℕ). find key_cmp z.0 (take i es) ≡ None) (sym is) (absent_by es i e l (of_true _ s))

find_other : (xs : List (Key × ℕ)) (e : Key × ℕ) (u : Key) → u ≢ e.0 → find key_cmp u (xs ++ e ∷ []) ≡ find key_cmp u xs
find_other [] e u off = go (key_cmp u e.0) refl
  where
    go : (o : Ordering) → key_cmp u e.0 ≡ o → cond (is_eq o) (Some e.1) None ≡ None
    go Less h = refl
    go Equal h = absurd (off (key_same u e.0 h))
    go Greater h = refl
find_other (x ∷ xs) e u off = ap (λ z. cond (eq_by_cmp key_cmp u x.0) (Some x.1) z) (find_other xs e u off)

find_last : (xs : List (Key × ℕ)) (e : Key × ℕ) → find key_cmp e.0 xs ≡ None → find key_cmp e.0 (xs ++ e ∷ []) ≡ Some e.1
find_last [] e none = subst (λ o. cond (is_eq o) (Some e.1) None ≡ Some e.1) (sym (tied_itself key_total e.0)) refl
find_last (x ∷ xs) e none = go (eq_by_cmp key_cmp e.0 x.0) none (find_last xs e)
  where
    go : (o : Bool) → cond o (Some x.1) (find key_cmp e.0 xs) ≡ None → (find key_cmp e.0 xs ≡ None → find key_cmp e.0 (xs ++ e ∷ []) ≡ Some e.1) → cond o (Some x.1) (find key_cmp e.0 (xs ++ e ∷ [])) ≡ Some e.1
    go true h more = cc
    go false h more = more h

-- the roots of one name more
pub one_root_more : (es : List (Key × ℕ)) (i : ℕ) (e : Key × ℕ) → i < length es → is_sorted key_cmp es ≡ true → e ≡ get_or es i e
    → (u : Key) → ((u ≡ e.0) × (find key_cmp u (take (i + 1) es) ≡ Some e.1)) ⊎ ((u ≢ e.0) × (find key_cmp u (take (i + 1) es) ≡ find key_cmp u (take i es)))
one_root_more es i e l s is u = go (bytes_eq u e.0) (bytes_eq-Decides u e.0)
  where
    more : take (i + 1) es ≡ take i es ++ e ∷ []
    more = take_more es i e l ∙ ap (λ z. take i es ++ z ∷ []) (sym is)

    go : (o : Bool) → Decides o (u ≡ e.0) → ((u ≡ e.0) × (find key_cmp u (take (i + 1) es) ≡ Some e.1)) ⊎ ((u ≢ e.0) × (find key_cmp u (take (i + 1) es) ≡ find key_cmp u (take i es)))
    go true d =
        let same : u ≡ e.0 = d.0 refl in
        inl (same, ap (λ z. find key_cmp z (take (i + 1) es)) same ∙ ap (find key_cmp e.0) more ∙ find_last (take i es) e (absent es i e l s is))
    go false d = inr (off, ap (find key_cmp u) more ∙ find_other (take i es) e u off)
      where
        off : u ≢ e.0
        off h = false_true (d.1 h)
