-- The split of a page, and the merge of a page into its left sibling.
use Rattle.std.proofs.Common.{◌≡◌, ◌≢◌, ℕ, zero, suc, ◌≤◌, List, [], ◌∷◌, ◌++◌, Option, Some, None, sym, refl, ap, ◌∙◌, subst, inl, inr, ◌⊎◌, append_assoc, arith, le_trans, length, length-append, ◌+◌}
use Rattle.sled_nodes.proofs.Basics.{none_some, some_is, same_or_not}
use Rattle.sled_store.specs.In.{In}
use Rattle.sled_nodes.specs.Node.{pairs, pointers, count}
use Rattle.sled_nodes.specs.Order.{Key, Below}
use Rattle.sled_store.specs.State.{Nodes}
use Rattle.sled_store.specs.Update.{put_at}
use Rattle.sled_store.specs.theory.Facts.{put_here, put_elsewhere}
use Rattle.sled_nodes.specs.declared.node.Data.{Data}
use Rattle.sled_nodes.specs.declared.node.Data.TheVariants.{Leaf, Index}
use Rattle.sled_nodes.specs.declared.node.Node.{Node}
use Rattle.tree_laws.specs.Action.{AreHalvesOf, IsSplit}
use Rattle.tree_laws.specs.theory.Action.{put_node}
use Rattle.tree_laws.specs.Forest.{first_child, Holds, Forest, Place, place, Run, IsPointer, WellFormed, node_pairs, Tree}
use Rattle.tree_laws.specs.theory.PageLaws.{IsOpenAt, Unseen, SplitLaw}
use Rattle.tree_laws.proofs.Pairs.{not_below_empty}
use Rattle.tree_laws.proofs.Runs.{In_split, In-left, In-right}
use Rattle.tree_laws.proofs.Update.{put_chain, chain_here, chain_there}
use Rattle.tree_laws.proofs.Sizes.{replaced_sized, replaced_grows}
use Rattle.tree_laws.proofs.Replace.{IsAdded, Replaces, replaced_kept, replaced_keeps, pairs_of, pairs_kept}

-- two halves are of the kind of the whole, and their entries join to its entries
halves_elim : (P : Data → Data → Data → Type 0) → ((es a b : List (Key × Key)) → es ≡ a ++ b → P (Leaf es) (Leaf a) (Leaf b)) → ((es a b : List (Key × ℕ)) → es ≡ a ++ b → P (Index es) (Index a) (Index b)) → (c a b : Data) → AreHalvesOf c a b → P c a b
halves_elim P leaf index (Leaf es) (Leaf a) (Leaf b) h = leaf es a b h
halves_elim P leaf index (Index es) (Index a) (Index b) h = index es a b h
halves_elim P leaf index (Leaf es) (Index a) b h = absurd h
halves_elim P leaf index (Leaf es) (Leaf a) (Index b) h = absurd h
halves_elim P leaf index (Index es) (Leaf a) b h = absurd h
halves_elim P leaf index (Index es) (Index a) (Leaf b) h = absurd h

-- how many entries two halves have together
pub halves_count : (c a b : Data) → AreHalvesOf c a b → count c ≡ count a + count b
halves_count = halves_elim (λ c a b. count c ≡ count a + count b) (λ es a b h. ap length h ∙ length-append a b) (λ es a b h. ap length h ∙ length-append a b)

pub halves_pairs : (c a b : Data) → AreHalvesOf c a b → pairs c ≡ pairs a ++ pairs b
halves_pairs = halves_elim (λ c a b. pairs c ≡ pairs a ++ pairs b) (λ es a b h. h) (λ es a b h. refl)

pub halves_pointers : (c a b : Data) → AreHalvesOf c a b → pointers c ≡ pointers a ++ pointers b
halves_pointers = halves_elim (λ c a b. pointers c ≡ pointers a ++ pointers b) (λ es a b h. refl) (λ es a b h. h)

-- an index has a first pointer, so it is that of what it begins
pub halves_first : (h : ℕ) (lo hi : Key) (c a b : Data) → AreHalvesOf c a b → Holds h lo hi a → first_child (pointers a) ≡ first_child (pointers c)
halves_first h lo hi c a b e s = halves_elim (λ c a b. Holds h lo hi a → first_child (pointers a) ≡ first_child (pointers c)) (λ es a b e s. refl) (first h) c a b e s
  where
    first : (h : ℕ) (es a b : List (Key × ℕ)) → es ≡ a ++ b → Holds h lo hi (Index a) → first_child a ≡ first_child es
    first zero es a b e s = absurd s
    first (suc h) es [] b e s = none_some s.2
    first (suc h) es (x ∷ a) b e s = ap first_child (sym e)

-- a pointer is asked no more of a node with the same merging child
pub pointer_like : (nodes : Nodes) (w : Forest) (n m : Node) (t : Tree) (h : ℕ) (k : Key) (c : ℕ) → m.merging_child ≡ n.merging_child → IsPointer nodes w n t h k c → IsPointer nodes w m t h k c
pointer_like nodes w n m t h k c e i = record { node = i.node; live = i.live; homed = i.homed; key = i.key; merged = λ u. e ∙ i.merged u }

module _ (nodes : Nodes) (roots : Tree → Option ℕ) (w : Forest) (f : WellFormed nodes roots w) (x : Place) (p q : ℕ) (n left right : Node) (o : IsOpenAt nodes w x p n) (there : nodes q ≡ Some right) (stray : (y : Place) → w.home q ≢ Some y) (s : IsSplit x.height n left right q) where
  pub split_forest : Forest
  split_forest = let a = In_split (w.chain x) p o.chained in record { chain = put_chain w.chain x (a.0 ++ (p ∷ (q ∷ a.1))); home = put_at w.home q (Some x) }

  q_off : q ≢ p
  q_off e = stray x (ap w.home e ∙ f.homed x p o.chained)

  new : Nodes
  new = put_node nodes p left

  pointer : (m : Node) (t : Tree) (h : ℕ) → m.merging_child ≡ None → ((k : Key) (c : ℕ) → In (k, c) (pointers m.content) → In (k, c) (pointers n.content)) → x ≡ place t (suc h) → (k : Key) (c : ℕ) → In (k, c) (pointers m.content) → IsPointer nodes w m t h k c
  pointer m t h none sub is k c j = pointer_like nodes w n m t h k c (none ∙ sym o.is_open.free) (f.pointer t h p n (subst (λ z. In p (w.chain z)) is o.chained) o.live k c (sub k c j))

  home_on : (z : ℕ) (y : Place) → w.home z ≡ Some y → split_forest.home z ≡ Some y
  unfolding split_forest
  home_on z y e = put_elsewhere w.home q z (Some x) (λ is. stray y (ap w.home (sym is) ∙ e)) ∙ e

  home_off : (z : ℕ) (y : Place) → split_forest.home z ≡ Some y → (w.home z ≡ Some y) ⊎ (In z (q ∷ []) × (y ≡ x))
  unfolding split_forest
  home_off z y e = elim (same_or_not z q) [
    | inl is ↦ inr (inl is, some_is (sym e ∙ ap (put_at w.home q (Some x)) is ∙ put_here w.home q (Some x)))
    | inr off ↦ inl (sym (put_elsewhere w.home q z (Some x) off) ∙ e)
  ]

  added : IsAdded nodes w split_forest x q
  unfolding split_forest
  added = record {
    node = right;
    live = there;
    was = stray;
    now = put_here w.home q (Some x);
    sound = s.right_sound;
    merging = s.calm.2;
    child = s.calm.3;
    pointer = λ t h. pointer right t h s.calm.3 (λ k c j. subst (λ l. In (k, c) l) (sym (halves_pointers _ _ _ s.halves)) (In-right (pointers left.content) _ _ j));
  }

  run : (to : Option ℕ) (hi : Key) → Run nodes (p ∷ []) (Some p) n.lo to hi → Run new (p ∷ (q ∷ [])) (Some p) n.lo to hi
  unfolding new
  run to hi r =
      let is : r.0 ≡ n = some_is (sym r.1.live ∙ o.live) in
      let end : (n.next ≡ to) × (n.hi ≡ hi) = (ap (λ (z : Node). z.next) (sym is) ∙ r.2.0, ap (λ (z : Node). z.hi) (sym is) ∙ r.2.1) in
      let up : (n.next ≡ None) ⊎ Below n.lo n.hi = subst (λ (z : Node). (z.next ≡ None) ⊎ Below z.lo z.hi) is r.1.rises in
      let late : (right.next ≡ None) ⊎ Below right.lo right.hi = elim up [
        | inl e ↦ inl (s.right_next ∙ e)
        | inr u ↦ elim s.within.1 [
          | inl e ↦ absurd (not_below_empty n.lo (subst (λ k. Below n.lo k) e u))
          | inr b ↦ inr (subst (λ k. Below right.lo k) (sym s.right_hi) b)
        ]
      ] in (
        left,
        record { live = put_here nodes p (Some left); here = refl; lo_is = sym s.left_lo; rises = inr (subst (λ k. Below k left.hi) (sym s.left_lo) (subst (λ k. Below n.lo k) (sym s.left_hi) s.apart)) },
        (
          right,
          record { live = put_elsewhere nodes p q (Some left) q_off ∙ there; here = s.left_next; lo_is = s.left_hi; rises = late },
          (s.right_next ∙ end.0, s.right_hi ∙ end.1),
        ),
      )

  parts : let a = In_split (w.chain x) p o.chained in Replaces nodes new w split_forest x p n left a.0 [] (q ∷ []) a.1
  unfolding split_forest new
  parts =
      let a = In_split (w.chain x) p o.chained in
      record {
        before = a.2;
        after = chain_here w.chain x _;
        elsewhere = chain_there w.chain x _;
        was = o.live;
        now = put_here nodes p (Some left);
        others = λ z. put_elsewhere nodes p z (Some left);
        stays = home_on;
        comes = home_off;
        adds = λ z h. elim h [ inl e ↦ subst (λ z. IsAdded nodes w split_forest x z) (sym e) added | inr e ↦ absurd e ];
        goes = λ z h. absurd h;
        run = run;
        lo = s.left_lo;
        merging_was = o.is_open.not_merging;
        merging = s.calm.0;
        merging_child = s.calm.1 ∙ sym o.is_open.free;
        sound = s.left_sound;
        first = halves_first x.height left.lo left.hi _ _ _ s.halves s.left_sound.holds;
        child = λ c e. none_some (sym s.calm.1 ∙ e);
        pointer = λ t h. pointer left t h s.calm.1 (λ k c j. subst (λ l. In (k, c) l) (sym (halves_pointers _ _ _ s.halves)) (In-left _ (pointers right.content) _ j));
      }

  same_pairs : pairs_of new (p ∷ (q ∷ [])) ≡ pairs_of nodes (p ∷ [])
  unfolding new
  same_pairs =
      ap (λ z. node_pairs z ++ pairs_of new (q ∷ [])) (put_here nodes p (Some left)) ∙ ap (λ z. pairs left.content ++ (node_pairs z ++ [])) (put_elsewhere nodes p q (Some left) q_off ∙ there)
      ∙ sym (append_assoc (pairs left.content) (pairs right.content) []) ∙ ap (λ l. l ++ []) (sym (halves_pairs _ _ _ s.halves)) ∙ ap (λ z. node_pairs z ++ []) (sym o.live)

  both_le : (count left.content ≤ count n.content) × (count right.content ≤ count n.content)
  both_le = parts_le (count n.content) (count left.content) (count right.content) (halves_count n.content left.content right.content s.halves)
    where
      parts_le : (a b c : ℕ) → a ≡ b + c → (b ≤ a) × (c ≤ a)
      parts_le a b c e = (omega arith, omega arith)

  pub split_unseen : (u : Unseen (q ∷ []) nodes (put_node nodes p left) roots w (Unit {0})) × In q (u.after.chain x)
  unfolding new split_forest
  split_unseen = (
    record {
      after = split_forest;
      kept = replaced_kept parts f;
      same = pairs_kept parts f same_pairs;
      keeps = replaced_keeps parts f (q ∷ []) (λ z h. h);
      sized = λ e z. replaced_sized parts f (record {
        fits = le_trans both_le.0 (z.fits x p n (f.homed x p o.chained) o.live);
        added_few = λ y d h is. elim h [ inl e ↦ subst (λ (k : Node). count k.content ≤ 33) (some_is (sym there ∙ ap nodes (sym e) ∙ is)) (le_trans both_le.1 (z.fits x p n (f.homed x p o.chained) o.live)) | inr e ↦ absurd e ];
        child = λ y d j is e. le_trans both_le.0 (z.child (place x.tree (suc x.height)) y p d n j is e o.live);
      }) z;
      grows = λ e. replaced_grows parts f (inl both_le.0);
    },
    let a = In_split (w.chain x) p o.chained in subst (λ c. In q c) (sym (chain_here w.chain x (a.0 ++ (p ∷ (q ∷ a.1))))) (In-right a.0 (p ∷ (q ∷ a.1)) q (inr (inl refl))),
  )

pub split_law : SplitLaw
split_law = split_unseen
