-- Where pointers and merging children lie: below one page alone, and not at the beginning of a level.
use Rattle.std.proofs.Common.{◌≡◌, ◌≢◌, ℕ, suc, List, [], ◌∷◌, Option, Some, None, sym, ap, ◌∙◌, subst}
use Rattle.sled_nodes.proofs.Basics.{some_is}
use Rattle.sled_nodes.specs.Node.{pointers}
use Rattle.sled_nodes.specs.Order.{Key, Below}
use Rattle.sled_store.specs.In.{In}
use Rattle.sled_store.specs.State.{Nodes}
use Rattle.sled_nodes.specs.declared.node.Node.{Node}
use Rattle.tree_laws.specs.Forest.{Tree, Forest, Place, place, head, Run, WellFormed, later}
use Rattle.tree_laws.proofs.Cover.{chain_run, holds_at, later_in, later_above, one_parent}
use Rattle.tree_laws.proofs.Pairs.{not_below_empty}
use Rattle.tree_laws.proofs.Replace.{head_in}
use Rattle.tree_progress.proofs.Among.{IsChildOf}

module _ {nodes : Nodes} {roots : Tree → Option ℕ} {w : Forest} (f : WellFormed nodes roots w) where
  -- the first page of a level begins at the empty key
  first_low : (x : Place) (p : ℕ) (d : Node) → head (w.chain x) ≡ Some p → nodes p ≡ Some d → d.lo ≡ []
  first_low x p d e live = go (w.chain x) e (chain_run f x p (head_in _ p e))
    where
      go : (ps : List ℕ) → head ps ≡ Some p → Run nodes ps (head ps) [] None [] → d.lo ≡ []
      go [] g r = cc
      go (q ∷ ps) g r = ap (λ (z : Node). z.lo) (some_is (sym live ∙ ap nodes (sym (some_is g)) ∙ r.1.live)) ∙ sym r.1.lo_is

  -- a page that begins above some key is not the first of its level
  pub above_not_first : (x : Place) (p : ℕ) (d : Node) (low : Key) → nodes p ≡ Some d → Below low d.lo → head (w.chain x) ≢ Some p
  above_not_first x p d low live b e = not_below_empty low (subst (λ z. Below low z) (first_low x p d e live) b)

  -- nor is a later child of a page
  pub later_not_first : (t : Tree) (h q c : ℕ) (n : Node) (k : Key) → In q (w.chain (place t (suc h))) → nodes q ≡ Some n → In (k, c) (later (pointers n.content)) → head (w.chain (place t h)) ≢ Some c
  later_not_first t h q c n k i live j =
      let e = f.pointer t h q n i live k c (later_in n.content k c j) in
      above_not_first (place t h) c e.node n.lo e.live (subst (λ z. Below n.lo z) (sym e.key) (later_above h n.lo n.hi n.content (holds_at f (place t (suc h)) q n i live) k c j))

  -- who has for its merging child where a page points is this page
  pub one_child : (t : Tree) (h p c : ℕ) (n : Node) (k : Key) → In p (w.chain (place t (suc h))) → nodes p ≡ Some n → In (k, c) (pointers n.content) → IsChildOf nodes (w.chain (place t (suc h))) c → n.merging_child ≡ Some c
  one_child t h p c n k i live j a =
      let b = f.child (place t (suc h)) a.page a.node a.among a.live c a.child in
      let e = one_parent f t h p a.page c n a.node k b.0 i a.among live a.live j (later_in a.node.content b.0 c b.1) in
      subst (λ (z : Node). z.merging_child ≡ Some c) (some_is (sym a.live ∙ ap nodes (sym e) ∙ live)) a.child
