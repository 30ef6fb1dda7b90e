-- The cap of a merging child.
use Rattle.std.proofs.Common.{◌≡◌, ℕ, zero, suc, ◌+◌, ◌≤◌, ◌<◌, ◌^◌, Bool, true, false, sum_by, Some, option_map, option_to_list, sym, refl, ap, ◌∙◌, subst, inl, inr, arith}
use Rattle.sled_nodes.proofs.Basics.{some_is, true_false}
use Rattle.sled_nodes.specs.Node.{count, after_link}
use Rattle.sled_store.specs.In.{In}
use Rattle.sled_store.specs.State.{State, nodes_of, PageBecomes, after}
use Rattle.sled_nodes.specs.declared.link.Link.TheVariants.{ChildMergeCap}
use Rattle.sled_nodes.specs.declared.node.Node.{Node}
use Rattle.sled_store.specs.declared.page.Page.{Page}
use Rattle.tree_laws.specs.Forest.{Tree, Forest, place, head, WellFormed}
use Rattle.tree_laws.specs.Snapshot.{nodes_at, IsAtVersion}
use Rattle.tree_laws.specs.Stages.{child_of}
use Rattle.tree_laws.proofs.Cover.{later_in}
use Rattle.tree_laws.proofs.Replace.{not_both}
use Rattle.tree_progress.specs.Weights.{child_weight}
use Rattle.tree_progress.specs.ToDo.{is_in, children, weight_of, first_weight_of}
use Rattle.tree_progress.specs.Laws.{Lowers, CapLowers}
use Rattle.tree_progress.proofs.Among.{of_in, child_in}
use Rattle.tree_progress.proofs.Sums.{no_more}
use Rattle.tree_progress.proofs.Levels.{received}
use Rattle.tree_progress.proofs.Changing.{levels_at, others_stay, page_changes, page_counts}
use Rattle.tree_progress.proofs.Replacing.{LeadsAlike, own_level, lower_level}
use Rattle.tree_progress.proofs.Children.{later_not_first}

-- A page is replaced by one that leads to the same pages, and has the same merging child: its own level alone changes
pub same_below : (s : State) (w : Forest) (f : WellFormed (nodes_of s) s.roots w) (below : (p : ℕ) (g : Page) → s.pages p ≡ Some g → p < 2 ^ 64) (t : Tree) (k p : ℕ) (i : In p (w.chain (place t k))) (g : Page) (n : Node) (d e : ℕ)
    → nodes_of s p ≡ Some n → ((q : ℕ) → LeadsAlike (Some n) (Some g.node) q) → g.node.merging_child ≡ n.merging_child
    → (head (w.chain (place t k)) ≡ Some p → first_weight_of (Some g.node) + d ≤ first_weight_of (Some n) + e)
    → ((b : Bool) → is_in p (children (nodes_of s) (w.chain (place t (suc k)))) ≡ b → weight_of b (Some g.node) + d ≤ weight_of b (Some n) + e)
    → levels_at (nodes_of (after (PageBecomes p (Some g)) s)) (λ z. w.chain (place t z)) k + d ≤ levels_at (nodes_of s) (λ z. w.chain (place t z)) k + e
same_below s w f below t zero p i g n d e live alike kids first other = own_level s w f below t 0 p i g n d e live first other
same_below s w f below t (suc j) p i g n d e live alike kids first other =
    sum _ _ _ _ (own_level s w f below t (suc j) p i g n d e live first other)
    (lower_level s w f below t j p i g n live 0 0 (λ q h. alike q) (same (ap (λ o. sum_by (received (w.chain (place t j))) (option_to_list o)) kids)))
  where
    same : {a b : ℕ} → a ≡ b → a + 0 ≤ b + 0
    same u = omega arith

    sum : (a b x y : ℕ) → a + d ≤ x + e → b + 0 ≤ y + 0 → (a + b) + d ≤ (x + y) + e
    sum a b x y u v = omega arith

pub cap_lowers : CapLowers
cap_lowers m w t number a node version is named k page =
    let h : ℕ = k.height in
    let c : ℕ = a.merge.child in
    let n : Node = a.node in
    let node_is : node ≡ n = k.view.speaks (record { version = a.version; node = node }) page refl in
    let live : nodes_at m c ≡ Some n = ap (option_map (λ (z : Page). z.node)) page ∙ ap Some node_is in
    let fresh : IsAtVersion m (child_of a) = record { page = record { version = a.version; node = node }; live = page; same = refl } in
    let up = k.wanted named fresh in
    let b = is.formed.child (place t (suc h)) up.parent up.node up.chained up.live c up.child in
    let e = is.formed.pointer t h up.parent up.node up.chained up.live b.0 c (later_in up.node.content b.0 c b.1) in
    let p = is.formed.page (place t h) c e.homed in
    let chained : In c (w.chain (place t h)) = elim p.1.stands [ inl i ↦ i | inr y ↦ not_both n.merging k.is_open.not_merging (subst (λ (z : Node). z.merging ≡ true) (some_is (sym p.1.live ∙ live)) y) ] in
    let root = is.rooted t number named in
    let g : Page = record { version = version; node = after_link ChildMergeCap n } in
    let found : is_in c (children (nodes_at m) (w.chain (place t (suc h)))) ≡ true = of_in c _ (child_in (record { page = up.parent; among = up.chained; node = up.node; live = up.live; child = up.child })) in
    subst (λ (z : Node). Lowers m.state (after (PageBecomes c (Some (record { version = version; node = after_link ChildMergeCap z }))) m.state) t 1) (sym node_is)
    (record {
      here = no_more _ _ (page_changes m.state w is.formed is.below t h c chained g root.0 1 0 n root.1 live refl refl
          (same_below m.state w is.formed is.below t h c chained g n 1 0 live (λ q. record { led_was = λ x. x; led_now = λ x. x; child_was = λ x. x; child_now = λ x. x }) refl
          (λ first. absurd (later_not_first is.formed t h up.parent c up.node b.0 up.chained up.live b.1 first))
          (λ v at. capped v (sym at ∙ found))));
      pages = page_counts m.state w is.formed is.below t h c chained g root.0 n root.1 live refl refl;
      others = others_stay m.state w is.formed is.below t h c chained g;
    })
  where
    open_weight : (x : ℕ) (b : Bool) → b ≡ false → x + 4 + 1 ≤ child_weight b x + 0
    open_weight x false e = omega arith
    open_weight x true e = true_false e

    capped : (v : Bool) → v ≡ true → weight_of v (Some (record (a.node) { merging = true })) + 1 ≤ weight_of v (Some a.node) + 0
    capped true u = open_weight (count a.node.content) a.node.merging k.is_open.not_merging
    capped false u = cc
