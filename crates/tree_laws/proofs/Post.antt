-- A pointer goes into an index.
use Rattle.std.proofs.Common.{◌≡◌, ℕ, suc, ◌≤◌, false, List, [], ◌∷◌, length, Option, Some, Less, Equal, Greater, sym, refl, ap, ◌∙◌, subst, inl, inr, ◌⊎◌}
use Rattle.std.specs.FinMap.Entries.{put, by_order, is_sorted-put}
use Rattle.sled_nodes.proofs.Basics.{none_some, some_is, key_total, key_same}
use Rattle.sled_store.specs.In.{In}
use Rattle.sled_nodes.specs.Node.{Within, pairs, pointers}
use Rattle.sled_nodes.specs.Order.{Key, key_cmp, Below}
use Rattle.sled_store.specs.State.{Nodes}
use Rattle.sled_nodes.specs.declared.node.Data.TheVariants.{Index}
use Rattle.sled_nodes.specs.declared.node.Node.{Node}
use Rattle.tree_laws.specs.theory.Action.{put_node}
use Rattle.tree_laws.specs.Forest.{IsNodeAt, later, first_key, first_child, Holds, Forest, place, IsPointer, WellFormed, Tree}
use Rattle.tree_laws.specs.theory.PageLaws.{IsOpenAt, Unseen, PostLaw}
use Rattle.tree_laws.proofs.Pairs.{above}
use Rattle.tree_laws.proofs.Replace.{not_both, place_below}
use Rattle.tree_laws.proofs.Cover.{holds_at}
use Rattle.tree_laws.proofs.Leaf.{with_content, in_place_unseen, each_put}
use Rattle.tree_laws.proofs.Split.{pointer_like}

put_in : (k : Key) (q : ℕ) (es : List (Key × ℕ)) (l : Key) (d : ℕ) → In (l, d) (put key_cmp k q es) → In (l, d) es ⊎ ((d ≡ q) × (l ≡ k))
put_in k q [] l d (inl e) = inr (ap (λ (z : Key × ℕ). z.1) e, ap (λ (z : Key × ℕ). z.0) e)
put_in k q [] l d (inr j) = absurd j
put_in k q (e ∷ es) l d i =
    (elim (key_cmp k e.0) as (λ o. key_cmp k e.0 ≡ o → In (l, d) (by_order o ((k, q) ∷ e ∷ es) ((e.0, q) ∷ es) (e ∷ put key_cmp k q es)) → In (l, d) (e ∷ es) ⊎ ((d ≡ q) × (l ≡ k))) [
      | Less ↦ λ g j. elim j [ inl a ↦ inr (ap (λ (z : Key × ℕ). z.1) a, ap (λ (z : Key × ℕ). z.0) a) | inr a ↦ inl a ]
      | Equal ↦ λ g j. elim j [ inl a ↦ inr (ap (λ (z : Key × ℕ). z.1) a, ap (λ (z : Key × ℕ). z.0) a ∙ sym (key_same k e.0 g)) | inr a ↦ inl (inr a) ]
      | Greater ↦ λ g j. elim j [ inl a ↦ inl (inl a) | inr a ↦ elim (put_in k q es l d a) [ inl b ↦ inl (inr b) | inr b ↦ inr b ] ]
    ]) refl i

first_on : (lo k : Key) (q : ℕ) (es : List (Key × ℕ)) → Below lo k → first_key es ≡ Some lo → (first_key (put key_cmp k q es) ≡ Some lo) × (first_child (put key_cmp k q es) ≡ first_child es)
first_on lo k q [] b e = none_some e
first_on lo k q (a ∷ es) b e =
    let g : key_cmp k a.0 ≡ Greater = above a.0 k (subst (λ z. Below z k) (some_is (sym e)) b) in (
      ap (λ o. first_key (by_order o ((k, q) ∷ a ∷ es) ((a.0, q) ∷ es) (a ∷ put key_cmp k q es))) g ∙ e,
      ap (λ o. first_child (by_order o ((k, q) ∷ a ∷ es) ((a.0, q) ∷ es) (a ∷ put key_cmp k q es))) g,
    )

module _ (nodes : Nodes) (roots : Tree → Option ℕ) (w : Forest) (f : WellFormed nodes roots w) (t : Tree) (h p q : ℕ) (n d : Node) (es : List (Key × ℕ)) (o : IsOpenAt nodes w (place t (suc h)) p n) (index : n.content ≡ Index es) (home : w.home q ≡ Some (place t h)) (there : nodes q ≡ Some d) (up : d.merging ≡ false) (low : Below n.lo d.lo) (within : Within n.lo n.hi d.lo) where
  holds : Holds (suc h) n.lo n.hi (Index es)
  holds = subst (λ z. Holds (suc h) n.lo n.hi z) index (holds_at f (place t (suc h)) p n o.chained o.live)

  first : (first_key (put key_cmp d.lo q es) ≡ Some n.lo) × (first_child (put key_cmp d.lo q es) ≡ first_child es)
  first = first_on n.lo d.lo q es low holds.2

  pointer : (u : Tree) (g : ℕ) → place t (suc h) ≡ place u (suc g) → (k : Key) (c : ℕ) → In (k, c) (put key_cmp d.lo q es) → IsPointer nodes w (with_content n (Index (put key_cmp d.lo q es))) u g k c
  pointer u g at k c j = elim (put_in d.lo q es k c j) [
    | inl a ↦ pointer_like nodes w n _ u g k c refl (f.pointer u g p n (subst (λ z. In p (w.chain z)) at o.chained) o.live k c (subst (λ z. In (k, c) (pointers z)) (sym index) a))
    | inr a ↦ record {
      node = d;
      live = ap nodes a.0 ∙ there;
      homed = ap w.home a.0 ∙ home ∙ ap Some (place_below t u h g at);
      key = sym a.1;
      merged = λ v. not_both d.merging up v;
    }
  ]

  sound : IsNodeAt (suc h) (with_content n (Index (put key_cmp d.lo q es)))
  sound = record { holds = (is_sorted-put key_cmp key_total d.lo q es holds.0, each_put (Within n.lo n.hi) d.lo q es within holds.1, first.0) }

  first_on_node : first_child (put key_cmp d.lo q es) ≡ first_child (pointers n.content)
  first_on_node = first.1 ∙ ap (λ z. first_child (pointers z)) (sym index)

  posted : Unseen [] nodes (put_node nodes p (with_content n (Index (put key_cmp d.lo q es)))) roots w (length (put key_cmp d.lo q es) ≤ 17)
  posted =
      let child : (c : ℕ) → n.merging_child ≡ Some c → (k : Key) × In (k, c) (later (put key_cmp d.lo q es)) = λ c e. none_some (sym o.is_open.free ∙ e) in
      in_place_unseen nodes roots w f (place t (suc h)) p n (Index (put key_cmp d.lo q es)) o.chained o.live o.is_open.not_merging sound first_on_node child pointer (sym (ap pairs index))

pub post_law : PostLaw
post_law = posted
