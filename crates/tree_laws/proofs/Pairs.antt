-- Lists of pairs in order of keys, and those of a part of a chain.
use Rattle.std.proofs.Common.{◌≡◌, ℕ, true, false, cond, not, List, [], ◌∷◌, ◌++◌, Option, Some, None, sym, refl, ap, ◌∙◌, subst, inl, inr, ◌⊎◌, flat_map, is_eq, Less, Equal, Greater}
use Rattle.std.specs.List.{AllByRecursion}
use Rattle.std.specs.Ordering.{ordering_reverse, eq_by_cmp}
use Rattle.std.specs.FinMap.Entries.{put, by_order}
use Rattle.sled_nodes.proofs.Basics.{key_total}
use Rattle.sled_store.specs.In.{In}
use Rattle.sled_nodes.specs.Node.{Within, pairs, without}
use Rattle.sled_nodes.specs.Order.{Key, key_cmp, Below, UpTo}
use Rattle.sled_store.specs.State.{Nodes}
use Rattle.sled_nodes.specs.declared.node.Data.{Data}
use Rattle.sled_nodes.specs.declared.node.Data.TheVariants.{Leaf, Index}
use Rattle.sled_nodes.specs.declared.node.Node.{Node}
use Rattle.tree_laws.specs.Forest.{Holds, Run, node_pairs}
use Rattle.tree_laws.proofs.Order.{upto-trans, upto-below, below_upto-trans}
use Rattle.tree_laws.proofs.Runs.{rises_more, rises_on, run_le}

pub each_append : {X : Type 0} (P : X → Type 0) (xs ys : List X) → AllByRecursion P xs → AllByRecursion P ys → AllByRecursion P (xs ++ ys)
each_append P [] ys a b = b
each_append P (x ∷ xs) ys a b = (a.0, each_append P xs ys a.1 b)

pub each_weaker : {X : Type 0} (P Q : X → Type 0) → ((x : X) → P x → Q x) → (xs : List X) → AllByRecursion P xs → AllByRecursion Q xs
each_weaker P Q h [] a = a
each_weaker P Q h (x ∷ xs) a = (h x a.0, each_weaker P Q h xs a.1)

pub above : (a b : Key) → Below a b → key_cmp b a ≡ Greater
above a b h = key_total.antisymm b a ∙ ap ordering_reverse h

-- an insert among pairs of which the first are below the key, and the last above it
pub put-middle : (k v : Key) (xs ms ys : List (Key × Key)) → AllByRecursion (λ e. Below e.0 k) xs → AllByRecursion (λ e. Below k e.0) ys → put key_cmp k v (xs ++ (ms ++ ys)) ≡ xs ++ (put key_cmp k v ms ++ ys)
put-middle k v [] [] [] a b = refl
put-middle k v [] [] (y ∷ ys) a b = ap (λ o. by_order o ((k, v) ∷ y ∷ ys) ((y.0, v) ∷ ys) (y ∷ put key_cmp k v ys)) b.0
put-middle k v [] (m ∷ ms) ys a b =
    elim (key_cmp k m.0) as (λ o. by_order o ((k, v) ∷ m ∷ (ms ++ ys)) ((m.0, v) ∷ (ms ++ ys)) (m ∷ put key_cmp k v (ms ++ ys)) ≡ by_order o ((k, v) ∷ m ∷ ms) ((m.0, v) ∷ ms) (m ∷ put key_cmp k v ms) ++ ys) [
      | Less ↦ refl
      | Equal ↦ refl
      | Greater ↦ ap (λ r. m ∷ r) (put-middle k v [] ms ys a b)
    ]
put-middle k v (x ∷ xs) ms ys a b =
    ap (λ o. by_order o ((k, v) ∷ x ∷ (xs ++ (ms ++ ys))) ((x.0, v) ∷ (xs ++ (ms ++ ys))) (x ∷ put key_cmp k v (xs ++ (ms ++ ys)))) (above x.0 k a.0)
    ∙ ap (λ r. x ∷ r) (put-middle k v xs ms ys a.1 b)

pub without_below : (k : Key) (xs : List (Key × Key)) → AllByRecursion (λ e. Below e.0 k) xs → without k xs ≡ xs
without_below k [] a = refl
without_below k (x ∷ xs) a = ap (λ o. cond (not (is_eq o)) (x ∷ without k xs) (without k xs)) (above x.0 k a.0) ∙ ap (λ r. x ∷ r) (without_below k xs a.1)

pub without_above : (k : Key) (xs : List (Key × Key)) → AllByRecursion (λ e. Below k e.0) xs → without k xs ≡ xs
without_above k [] a = refl
without_above k (x ∷ xs) a = ap (λ o. cond (not (is_eq o)) (x ∷ without k xs) (without k xs)) a.0 ∙ ap (λ r. x ∷ r) (without_above k xs a.1)

pub without-append : (k : Key) (xs ys : List (Key × Key)) → without k (xs ++ ys) ≡ without k xs ++ without k ys
without-append k [] ys = refl
without-append k (x ∷ xs) ys =
    elim (not (eq_by_cmp key_cmp k x.0)) as (λ b. cond b (x ∷ without k (xs ++ ys)) (without k (xs ++ ys)) ≡ cond b (x ∷ without k xs) (without k xs) ++ without k ys) [
      | true ↦ ap (λ r. x ∷ r) (without-append k xs ys)
      | false ↦ without-append k xs ys
    ]

pub without-middle : (k : Key) (xs ms ys : List (Key × Key)) → AllByRecursion (λ e. Below e.0 k) xs → AllByRecursion (λ e. Below k e.0) ys → without k (xs ++ (ms ++ ys)) ≡ xs ++ (without k ms ++ ys)
without-middle k xs ms ys a b =
    let p = without_below k xs a in let q = without_above k ys b in
    without-append k xs (ms ++ ys) ∙ ap (λ r. r ++ without k (ms ++ ys)) p ∙ ap (λ r. xs ++ r) (without-append k ms ys ∙ ap (λ r. without k ms ++ r) q)

pub not_below_empty : (a : Key) → Below a [] → ⊥
unfolding key_cmp
not_below_empty [] h = cc
not_below_empty (x ∷ a) h = cc

pub leaf_within : (lo hi : Key) (c : Data) → Holds 0 lo hi c → AllByRecursion (λ e. Within lo hi e.0) (pairs c)
leaf_within lo hi (Leaf es) h = h.1
leaf_within lo hi (Index es) h = absurd h

-- what holds of a page's bounds, where they rise
pub under : (lo hi k : Key) → Below lo hi → Within lo hi k → Below k hi
under lo hi k up h = elim h.1 [ inl e ↦ absurd (not_below_empty lo (subst (λ z. Below lo z) e up)) | inr b ↦ b ]

abbrev pub Leaves : Nodes → List ℕ → Type 0
Leaves nodes ps = (q : ℕ) (d : Node) → In q ps → nodes q ≡ Some d → Holds 0 d.lo d.hi d.content

-- the pairs of a run that goes on are below its end, those of any run at or above its beginning
pub pairs_before : (nodes : Nodes) (ps : List ℕ) (from : Option ℕ) (z : ℕ) (lo hi : Key) → Leaves nodes ps → Run nodes ps from lo (Some z) hi → AllByRecursion (λ e. Below e.0 hi) (flat_map (λ p. node_pairs (nodes p)) ps)
pairs_before nodes [] from z lo hi s r = tt
pairs_before nodes (p ∷ ps) from z lo hi s r =
    let up = rises_more nodes ps r.0 (Some z) hi z refl r.1.rises r.2 in
    let le = run_le nodes ps _ z _ hi r.2 in
    each_append (λ e. Below e.0 hi) (node_pairs (nodes p)) _
    (subst (λ o. AllByRecursion (λ e. Below e.0 hi) (node_pairs o)) (sym r.1.live)
    (each_weaker (λ e. Within r.0.lo r.0.hi e.0) (λ e. Below e.0 hi) (λ e h. below_upto-trans e.0 r.0.hi hi (under _ _ _ up h) le) _ (leaf_within _ _ _ (s p r.0 (inl refl) r.1.live))))
    (pairs_before nodes ps _ z _ hi (λ q d i. s q d (inr i)) r.2)

pub pairs_from : (nodes : Nodes) (ps : List ℕ) (from to : Option ℕ) (lo hi : Key) → Leaves nodes ps → Run nodes ps from lo to hi → AllByRecursion (λ e. UpTo lo e.0) (flat_map (λ p. node_pairs (nodes p)) ps)
pairs_from nodes [] from to lo hi s r = tt
pairs_from nodes (p ∷ ps) from to lo hi s r =
    each_append (λ e. UpTo lo e.0) (node_pairs (nodes p)) _
    (subst (λ o. AllByRecursion (λ e. UpTo lo e.0) (node_pairs o)) (sym r.1.live)
    (subst (λ k. AllByRecursion (λ e. UpTo k e.0) (pairs r.0.content)) (sym r.1.lo_is)
    (each_weaker (λ e. Within r.0.lo r.0.hi e.0) (λ e. UpTo r.0.lo e.0) (λ e h. h.0) _ (leaf_within _ _ _ (s p r.0 (inl refl) r.1.live)))))
    (more ps r.2 (pairs_from nodes ps _ to _ hi (λ q d i. s q d (inr i)) r.2))
  where
    more : (qs : List ℕ) → Run nodes qs r.0.next r.0.hi to hi → AllByRecursion (λ e. UpTo r.0.hi e.0) (flat_map (λ p. node_pairs (nodes p)) qs) → AllByRecursion (λ e. UpTo lo e.0) (flat_map (λ p. node_pairs (nodes p)) qs)
    more [] u a = tt
    more (q ∷ qs) u a =
        let up = rises_on nodes (q ∷ qs) r.0 to hi q (inl refl) r.1.rises u in
        each_weaker (λ e. UpTo r.0.hi e.0) (λ e. UpTo lo e.0) (λ e h. subst (λ k. UpTo k e.0) (sym r.1.lo_is) (upto-trans r.0.lo r.0.hi e.0 (upto-below _ _ up) h)) _ a

-- the pairs behind a page are above each key within its bounds
pub pairs_above : (nodes : Nodes) (n : Node) (ps : List ℕ) (to : Option ℕ) (hi k : Key) → Leaves nodes ps → (n.next ≡ None) ⊎ Below n.lo n.hi → Run nodes ps n.next n.hi to hi → Within n.lo n.hi k → AllByRecursion (λ e. Below k e.0) (flat_map (λ p. node_pairs (nodes p)) ps)
pairs_above nodes n [] to hi k s o r h = tt
pairs_above nodes n (q ∷ qs) to hi k s o r h =
    let up = rises_on nodes (q ∷ qs) n to hi q (inl refl) o r in
    let b = under n.lo n.hi k up h in
    each_weaker (λ e. UpTo n.hi e.0) (λ e. Below k e.0) (λ e u. below_upto-trans k n.hi e.0 b u) _ (pairs_from nodes (q ∷ qs) _ to _ hi s r)
