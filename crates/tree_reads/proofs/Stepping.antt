-- From place to place in a leaf.
use Rattle.std.proofs.Common.{◌≡◌, ℕ, zero, suc, ◌+◌, ◌<◌, Bool, true, false, T, cond, filter, List, [], ◌∷◌, ◌++◌, length, slice_get, Option, Some, None, IfSome, sym, refl, ap, ◌∙◌, subst, append_assoc, arith}
use Rattle.std.specs.FinMap.Entries.{is_sorted, below_all}
use Rattle.std.specs.Ordering.{is_gt}
use Rattle.std.specs.declared.ops.Bound.{Bound}
use Rattle.std.specs.declared.ops.Bound.TheVariants.{Excluded}
use Rattle.sled_nodes.proofs.Basics.{some_is, none_some, false_true, left_of, right_of, both_of, or_false}
use Rattle.sled_nodes.specs.Order.{Key, key_cmp, Below}
use Rattle.sled_nodes.specs.Among.{is_up_to, is_from, IsFirst}
use Rattle.sled_nodes.specs.Node.{pairs}
use Rattle.sled_store.specs.State.{nodes_of}
use Rattle.sled_store.specs.Store.{Store, now, AreGiven}
use Rattle.sled_store.specs.declared.page.View.{View}
use Rattle.tree_laws.specs.Contents.{pairs_under}
use Rattle.tree_laws.proofs.Order.{upto-refl}
use Rattle.tree_laws.proofs.Pairs.{above}
use Rattle.tree_laws.proofs.Reading.{range_law, sorted_law}
use Rattle.tree_reads.specs.declared.cursor.Cursor.{Cursor}
use Rattle.tree_reads.specs.Cursor.{lower, lower_at, lower_from, are_up_to, EndsAt}
use Rattle.tree_reads.specs.Leaves.{Seeks, SeeksAt, entry_at}
use Rattle.tree_reads.specs.Ranges.{IsRoot}
use Rattle.tree_reads.specs.theory.Cursor.{GoesOn, UpToIn}
use Rattle.tree_reads.specs.theory.Ranges.{Advances}
use Rattle.tree_reads.proofs.Turning.{lower as lower_too}
use Rattle.tree_reads.proofs.Seeking.{none_of, none_join, all_at, in_chain, node_at, seeks_found, seeks_on}
use Rattle.tree_reads.proofs.Ranging.{each_above, around, filter_none, advance_one}

-- parts of a sorted list are sorted
sorted_behind : (xs ys : List (Key × Key)) → T (is_sorted key_cmp (xs ++ ys)) → T (is_sorted key_cmp ys)
sorted_behind [] ys p = p
sorted_behind (x ∷ xs) ys p = sorted_behind xs ys (right_of _ _ p)

above_front : (k : Key) (xs ys : List (Key × Key)) → T (below_all key_cmp k (xs ++ ys)) → T (below_all key_cmp k xs)
above_front k [] ys p = tt
above_front k (x ∷ xs) ys p = both_of _ _ (left_of _ _ p) (above_front k xs ys (right_of _ _ p))

sorted_front : (xs ys : List (Key × Key)) → T (is_sorted key_cmp (xs ++ ys)) → T (is_sorted key_cmp xs)
sorted_front [] ys p = tt
sorted_front (x ∷ xs) ys p = both_of _ _ (above_front x.0 xs ys (left_of _ _ p)) (sorted_front xs ys (right_of _ _ p))

-- the pair before one that does not stand first
neighbours : (xs : List (Key × Key)) (i : ℕ) (p : Key × Key) → slice_get xs (suc i) ≡ Some p → (e : Key × Key) × (before : List (Key × Key)) × (after : List (Key × Key)) × (slice_get xs i ≡ Some e) × (xs ≡ before ++ e ∷ p ∷ after)
neighbours [] i p s = none_some s
neighbours (x ∷ []) zero p s = none_some s
neighbours (x ∷ y ∷ ys) zero p s = (x, [], ys, refl, ap (λ z. x ∷ z ∷ ys) (some_is s))
neighbours (x ∷ xs) (suc i) p s = let n = neighbours xs i p s in (n.0, x ∷ n.1, n.2, n.3, ap (λ l. x ∷ l) n.4)

-- behind a pair its neighbour is the first
first_after : (xs before after : List (Key × Key)) (e p : Key × Key) → xs ≡ before ++ e ∷ p ∷ after → T (is_sorted key_cmp xs) → IsFirst (λ x. is_from (Excluded e.0) x.0) xs p
first_after xs before after e p is sorted =
    let r = around before e (p ∷ after) (subst (λ l. T (is_sorted key_cmp l)) is sorted) in record {
      before = before ++ e ∷ [];
      after = after;
      is = is ∙ sym (append_assoc before (e ∷ []) (p ∷ after));
      passed = ap is_gt (above e.0 p.0 r.1.0);
      none = none_join (λ x. is_from (Excluded e.0) x.0) before (e ∷ []) (none_of (λ x. is_from (Excluded e.0) x.0) before (λ x i. ap is_gt (all_at (λ z. Below z.0 e.0) before x i r.0))) (or_false _ _ (upto-refl e.0) refl);
    }

-- those up to a bound stand in front
up_to_count : (hi : Bound Key) (xs : List (Key × Key)) → T (is_sorted key_cmp xs) → (i : ℕ) (e : Key × Key) → i < length (filter (λ x. is_up_to hi x.0) xs) → slice_get xs i ≡ Some e → is_up_to hi e.0 ≡ true
up_to_count hi [] sorted i e l s = none_some s
up_to_count hi (x ∷ xs) sorted i e l s = go (λ j k m. up_to_count hi xs (right_of _ _ sorted) j e k m) (is_up_to hi x.0) refl i l s
  where
    beyond : is_up_to hi x.0 ≡ false → (y : Key × Key) → Below x.0 y.0 → (b : Bool) → is_up_to hi y.0 ≡ b → is_up_to hi y.0 ≡ false
    beyond off y b true u = false_true (sym off ∙ lower_too hi x.0 y.0 b u)
    beyond off y b false u = u

    none : is_up_to hi x.0 ≡ false → filter (λ y. is_up_to hi y.0) xs ≡ []
    none off = filter_none (λ y. is_up_to hi y.0) xs (λ y j. beyond off y (all_at (λ z. Below x.0 z.0) xs y j (each_above x.0 xs (left_of _ _ sorted))) (is_up_to hi y.0) refl)

    go : ((j : ℕ) → j < length (filter (λ y. is_up_to hi y.0) xs) → slice_get xs j ≡ Some e → is_up_to hi e.0 ≡ true) → (b : Bool) → is_up_to hi x.0 ≡ b → (i : ℕ) → i < length (cond b (x ∷ filter (λ y. is_up_to hi y.0) xs) (filter (λ y. is_up_to hi y.0) xs)) → slice_get (x ∷ xs) i ≡ Some e → is_up_to hi e.0 ≡ true
    go rest true up zero l s = ap (λ (z : Key × Key). is_up_to hi z.0) (sym (some_is s)) ∙ up
    go rest true up (suc i) l s = rest i (omega (arith, l)) s
    go rest false off i l s = let n : length (filter (λ y. is_up_to hi y.0) xs) ≡ 0 = ap length (none off) in absurd (omega (arith, l, n))

-- behind the pair that was found, or where it was
pub behind_found : (lo : Bound Key) (leaf : Option View) (place : ℕ) (found : Option (Key × Key)) (p : Key × Key) → found ≡ Some p → IfSome found (λ x. entry_at leaf place ≡ Some x) → lower_from lo (entry_at leaf place) ≡ Excluded p.0
behind_found lo leaf place found p is there = ap (lower_from lo) (subst (λ z. IfSome z (λ x. entry_at leaf place ≡ Some x)) is there)

pub where_it_was : (all : List (Key × Key)) (lo hi : Bound Key) (leaf : Option View) (place : ℕ) (end : Option ℕ) → end ≡ None → Advances all lo hi None lo → Advances all lo hi None (lower_at lo leaf place end)
where_it_was all lo hi leaf place end none a = subst (Advances all lo hi None) (sym (ap (lower_at lo leaf place) none)) a

-- a lower bound that came along
pub lower_caught : (old new : Cursor) → new ≡ record old { lo = lower old; end = None } → lower new ≡ lower old
lower_caught old new e = ap lower e

pub bound_caught : (old new : Cursor) → new ≡ record old { lo = lower old; end = None } → new.lo ≡ lower old
bound_caught old new e = ap (λ (c : Cursor). c.lo) e

module _ (s : Store) (root : ℕ) (given : AreGiven s) (is : IsRoot (now s) root) (hi : Bound Key) where
  leaf_sorted : (lo : Bound Key) (v : View) → Seeks (now s) root lo v 0 → T (is_sorted key_cmp (pairs v.node.content))
  leaf_sorted lo v k =
      let a = k.is is.forest is.formed is.tree is.is in
      let r = range_law (nodes_of (now s)) (now s).roots is.forest is.formed is.tree v.pid v.node (in_chain a.1) (node_at (now s) v k.read.live) in
      sorted_front (pairs v.node.content) r.1 (sorted_behind r.0 (pairs v.node.content ++ r.1) (subst (λ l. T (is_sorted key_cmp l)) r.2 (sorted_law (nodes_of (now s)) (now s).roots is.forest is.formed is.tree)))

  pub ends_at : (lo : Bound Key) (leaf : Option View) (n : ℕ) → SeeksAt (now s) root lo leaf → UpToIn hi leaf n → are_up_to hi leaf (Some n)
  ends_at lo None n k u i e l there = none_some there
  ends_at lo (Some v) n k u i e l there = up_to_count hi (pairs v.node.content) (leaf_sorted lo v k) i e (subst (λ m. i < m) u l) there

  step : (lo : Bound Key) (leaf : Option View) (place n : ℕ) (p : Key × Key) → SeeksAt (now s) root (lower_from lo (entry_at leaf place)) leaf → are_up_to hi leaf (Some n) → suc place < n → entry_at leaf (suc place) ≡ Some p
      → Advances (pairs_under (nodes_of (now s)) root) (lower_from lo (entry_at leaf place)) hi (Some p) (Excluded p.0) × SeeksAt (now s) root (Excluded p.0) leaf
  step lo None place n p k up before there = none_some there
  step lo (Some v) place n p k up before there =
      let b = neighbours (pairs v.node.content) place p there in
      let low : lower_from lo (slice_get (pairs v.node.content) place) ≡ Excluded b.0.0 = ap (lower_from lo) b.3 in
      let seeks : Seeks (now s) root (Excluded b.0.0) v 0 = subst (λ z. Seeks (now s) root z v 0) low k in
      let first = first_after (pairs v.node.content) b.1 b.2 b.0 p b.4 (leaf_sorted (Excluded b.0.0) v seeks) in (
        subst (λ z. Advances (pairs_under (nodes_of (now s)) root) z hi (Some p) (Excluded p.0)) (sym low) (advance_one s root given is (Excluded b.0.0) hi (Excluded b.0.0) refl (Some p) (seeks_found (now s) root (Excluded b.0.0) v 0 seeks p first) p refl (up (suc place) p before there) (Excluded p.0) refl),
        seeks_on (now s) root (Excluded b.0.0) v 0 seeks p.0 first.passed,
      )

  -- a cursor that goes on by one place
  module _ (old new : Cursor) (p : Key × Key) (at : SeeksAt (now s) root (lower old) old.leaf) (ends : EndsAt hi old) (found : Option (Key × Key)) (some : found ≡ Some p) (goes : IfSome found (GoesOn old new)) where
    on : GoesOn old new p
    on = subst (λ z. IfSome z (GoesOn old new)) some goes

    lower_old : lower old ≡ lower_from old.lo (entry_at old.leaf old.place)
    lower_old = ap (lower_at old.lo old.leaf old.place) on.known

    lower_new : lower new ≡ Excluded p.0
    lower_new = ap lower on.is ∙ ap (lower_at old.lo old.leaf (old.place + 1)) on.known ∙ ap (lower_from old.lo) on.there

    stepped : Advances (pairs_under (nodes_of (now s)) root) (lower_from old.lo (entry_at old.leaf old.place)) hi (Some p) (Excluded p.0) × SeeksAt (now s) root (Excluded p.0) old.leaf
    stepped =
        let next : old.place + 1 ≡ suc old.place = omega arith in
        let before = on.before in
        step old.lo old.leaf old.place on.end p (subst (λ z. SeeksAt (now s) root z old.leaf) lower_old at) (subst (are_up_to hi old.leaf) on.known ends.is) (omega (arith, before)) (ap (entry_at old.leaf) (sym next) ∙ on.there)

    pub goes_on : Advances (pairs_under (nodes_of (now s)) root) (lower old) hi (Some p) (lower new)
    goes_on = subst (λ z. Advances (pairs_under (nodes_of (now s)) root) z hi (Some p) (lower new)) (sym lower_old) (subst (Advances (pairs_under (nodes_of (now s)) root) (lower_from old.lo (entry_at old.leaf old.place)) hi (Some p)) (sym lower_new) stepped.0)

    pub goes_kept : SeeksAt (now s) root (lower new) new.leaf
    goes_kept = subst (λ z. SeeksAt (now s) root z new.leaf) (sym lower_new) (subst (SeeksAt (now s) root (Excluded p.0)) (sym (ap (λ (c : Cursor). c.leaf) on.is)) stepped.1)
