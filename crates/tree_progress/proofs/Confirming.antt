-- The last change of a merge: the index loses its pointer to the received child.
use Rattle.std.proofs.Common.{◌≡◌, ◌≢◌, ℕ, suc, ◌+◌, ◌≤◌, ◌<◌, ◌^◌, Bool, true, false, List, [], length, sum_by, Option, Some, None, option_map, option_to_list, sym, refl, ap, ◌∙◌, subst, inl, inr, arith}
use Rattle.sled_nodes.proofs.Basics.{none_some, some_is}
use Rattle.sled_nodes.specs.Node.{pointers, count, unpointed, after_link, after_confirm}
use Rattle.sled_nodes.specs.Order.{Key, Below}
use Rattle.sled_store.specs.In.{In}
use Rattle.sled_store.specs.State.{State, nodes_of, PageBecomes, after}
use Rattle.sled_nodes.specs.declared.link.Link.TheVariants.{ParentMergeConfirm}
use Rattle.sled_nodes.specs.declared.node.Data.{Data}
use Rattle.sled_nodes.specs.declared.node.Data.TheVariants.{Index}
use Rattle.sled_nodes.specs.declared.node.Node.{Node}
use Rattle.sled_store.specs.declared.page.Page.{Page}
use Rattle.tree_laws.specs.Forest.{Tree, Forest, place, first_child, Holds, WellFormed}
use Rattle.tree_laws.specs.Contents.{first_of}
use Rattle.tree_laws.specs.Snapshot.{nodes_at}
use Rattle.tree_laws.proofs.Cover.{holds_at, later_in, later_above}
use Rattle.tree_laws.proofs.Flags.{index_at}
use Rattle.tree_laws.proofs.Order.{below_irrefl}
use Rattle.tree_laws.proofs.Stable.{now_law}
use Rattle.tree_progress.specs.Weights.{child_weight, received_weight}
use Rattle.tree_progress.specs.ToDo.{led_to, merges, weight_of, first_weight_of}
use Rattle.tree_progress.specs.Laws.{Lowers, ConfirmLowers}
use Rattle.tree_progress.proofs.Arithmetic.{less_weight, less_first_weight}
use Rattle.tree_progress.proofs.Sums.{no_more}
use Rattle.tree_progress.proofs.Among.{not_in}
use Rattle.tree_progress.proofs.Levels.{received}
use Rattle.tree_progress.proofs.Changing.{levels_at, others_stay, page_changes, page_counts}
use Rattle.tree_progress.proofs.Pointing.{unpointed_ends, unpointed_first, one_less}
use Rattle.tree_progress.proofs.Replacing.{LeadsAlike, own_level, lower_level}

module _ (s : State) (w : Forest) (f : WellFormed (nodes_of s) s.roots w) (below : (p : ℕ) (g : Page) → s.pages p ≡ Some g → p < 2 ^ 64) (t : Tree) (h p : ℕ) (i : In p (w.chain (place t (suc h)))) (n : Node) (es : List (Key × ℕ)) (c version root : ℕ)
    (live : nodes_of s p ≡ Some n) (index : n.content ≡ Index es) (has : n.merging_child ≡ Some c) (out : ¬ (In c (w.chain (place t h)))) (rooted : s.roots t ≡ Some root) where
  abbrev m : Node
  m = record n { content = Index (unpointed c es); merging_child = None }

  abbrev g : Page
  g = record { version = version; node = m }

  holds : Holds (suc h) n.lo n.hi (Index es)
  holds = subst (λ z. Holds (suc h) n.lo n.hi z) index (holds_at f (place t (suc h)) p n i live)

  -- every pointer to the child has one key, which is not the first
  at_child : (low : Key) × ((k : Key) → In (k, c) es → k ≡ low) × (n.lo ≡ low → ⊥)
  at_child =
      let b = f.child (place t (suc h)) p n i live c has in
      let pointer = f.pointer t h p n i live b.0 c (later_in n.content b.0 c b.1) in (
        pointer.node.lo,
        λ k j. let e = f.pointer t h p n i live k c (subst (λ z. In (k, c) (pointers z)) (sym index) j) in sym e.key ∙ ap (λ (z : Node). z.lo) (some_is (sym e.live ∙ pointer.live)),
        λ e. below_irrefl n.lo (subst (λ z. Below n.lo z) (sym (e ∙ pointer.key)) (later_above h n.lo n.hi n.content (holds_at f (place t (suc h)) p n i live) b.0 c b.1)),
      )

  sizes : (count m.content ≤ count n.content) × (count n.content ≤ suc (count m.content))
  sizes = subst (λ z. (length (unpointed c es) ≤ count z) × (count z ≤ suc (length (unpointed c es)))) (sym index) (one_less c at_child.0 es holds.0 at_child.1)

  -- the index weighs 2 more at most
  of_child : (b : Bool) → weight_of b (Some m) + 0 ≤ weight_of b (Some n) + 2
  of_child false = plain _ _ (less_weight (count n.content) (count m.content) sizes.0 sizes.1)
    where
      plain : (a b : ℕ) → a ≤ b + 2 → a + 0 ≤ b + 2
      plain a b l = omega arith
  of_child true = capped n.merging sizes.0
    where
      capped : (b : Bool) → count m.content ≤ count n.content → child_weight b (count m.content) + 0 ≤ child_weight b (count n.content) + 2
      capped false l = omega arith
      capped true l = omega arith

  first_page : first_weight_of (Some m) + 0 ≤ first_weight_of (Some n) + 2
  first_page = plain _ _ (less_first_weight (count n.content) (count m.content) sizes.0)
    where
      plain : (a b : ℕ) → a ≤ b + 2 → a + 0 ≤ b + 2
      plain a b l = omega arith

  -- and the child, which is in no chain, 3 less
  alike : (q : ℕ) → In q (w.chain (place t h)) → LeadsAlike (Some n) (Some m) q
  alike q j =
      let off : q ≢ c = λ e. out (subst (λ z. In z (w.chain (place t h))) e j) in
      let b = unpointed_ends c q es off in
      record {
        led_was = λ x. subst (λ z. In q (led_to (Some (record n { content = z })))) (sym index) (b.0 x);
        led_now = λ x. b.1 (subst (λ z. In q (led_to (Some (record n { content = z })))) index x);
        child_was = λ x. absurd x;
        child_now = λ x. absurd (elim (subst (λ o. In q (option_to_list o)) has x) [ inl e ↦ off e | inr e ↦ e ]);
      }

  kids : sum_by (received (w.chain (place t h))) (merges (Some m)) + 3 ≤ sum_by (received (w.chain (place t h))) (merges (Some n)) + 0
  kids = subst (λ o. sum_by (received (w.chain (place t h))) [] + 3 ≤ sum_by (received (w.chain (place t h))) (option_to_list o) + 0) (sym has)
      (three (received (w.chain (place t h)) c) (ap received_weight (not_in c (w.chain (place t h)) out)))
    where
      three : (a : ℕ) → a ≡ 3 → 0 + 3 ≤ (0 + a) + 0
      three a e = omega arith

  pub confirmed : Lowers s (after (PageBecomes p (Some g)) s) t 1
  confirmed = record {
    here = no_more _ _ (page_changes s w f below t (suc h) p i g root 1 0 n rooted live refl first both);
    pages = page_counts s w f below t (suc h) p i g root n rooted live refl first;
    others = others_stay s w f below t (suc h) p i g;
  }
    where
      first : first_of (Some m) ≡ first_of (Some n)
      first = unpointed_first c es n.lo holds.2 (λ j. at_child.2 (at_child.1 n.lo j)) ∙ ap (λ z. first_child (pointers z)) (sym index)

      both : levels_at (nodes_of (after (PageBecomes p (Some g)) s)) (λ z. w.chain (place t z)) (suc h) + 1 ≤ levels_at (nodes_of s) (λ z. w.chain (place t z)) (suc h) + 0
      both = sum _ _ _ _ (own_level s w f below t (suc h) p i g n 0 2 live (λ e. first_page) (λ b e. of_child b)) (lower_level s w f below t h p i g n live 3 0 alike kids)
        where
          sum : (a b x y : ℕ) → a + 0 ≤ x + 2 → b + 3 ≤ y + 0 → (a + b) + 1 ≤ (x + y) + 0
          sum a b x y u v = omega arith

not_gone : (o : Option Node) (d : Node) → o ≡ None → o ≡ Some d → ⊥
not_gone o d e live = none_some (sym e ∙ live)

pub confirm_lowers : ConfirmLowers
confirm_lowers m w t number a node version is named k page =
    let h : ℕ = k.height in
    let p : ℕ = a.parent.pid in
    let n : Node = a.parent.node in
    let v = k.merger in
    let node_is : node ≡ n = v.view.speaks (record { version = a.parent.version; node = node }) page refl in
    let live : nodes_at m p ≡ Some n = ap (option_map (λ (z : Page). z.node)) page ∙ ap Some node_is in
    let i = (now_law m w (place t (suc h)) number n.lo p v.stood named n live v.not_merging).0 in
    let b = is.formed.child (place t (suc h)) p n i live a.child v.child in
    let e = is.formed.pointer t h p n i live b.0 a.child (later_in n.content b.0 a.child b.1) in
    let out : ¬ (In a.child (w.chain (place t h))) = elim k.received.out [ inl none ↦ absurd (not_gone (nodes_at m a.child) e.node none e.live) | inr out ↦ out ] in
    let es = index_at is.formed t h p n i live in
    let root = is.rooted t number named in
    let same : record n { content = Index (unpointed a.child es.0); merging_child = None } ≡ after_link ParentMergeConfirm node =
    ap (λ (z : Data × Option ℕ). record n { content = z.0; merging_child = z.1 }) (sym (ap (λ z. after_confirm z n.merging_child) es.1 ∙ ap (after_confirm (Index es.0)) v.child)) ∙ ap (after_link ParentMergeConfirm) (sym node_is) in
    subst (λ (z : Node). Lowers m.state (after (PageBecomes p (Some (record { version = version; node = z }))) m.state) t 1) same
    (confirmed m.state w is.formed is.below t h p i n es.0 a.child version root.0 live es.1 v.child out root.1)
