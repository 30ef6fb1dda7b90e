-- Laws that ask for less than those of the actions do, and are false: each is refused by a state that it would lead to.
use Rattle.std.specs.Prelude.{◌≡◌, ◌≢◌, ℕ, ◌≤◌, false, List, [], ◌∷◌, Option, Some, None}
use Rattle.std.specs.FinMap.Entries.{put}
use Rattle.sled_nodes.specs.Order.{Key, key_cmp}
use Rattle.sled_store.specs.In.{In}
use Rattle.sled_nodes.specs.Node.{count, Covers, after_link}
use Rattle.sled_store.specs.State.{Nodes}
use Rattle.sled_nodes.specs.declared.node.Node.{Node}
use Rattle.sled_nodes.specs.declared.link.Link.TheVariants.{Set}
use Rattle.sled_store.specs.declared.page.Page.{Page}
use Rattle.tree_laws.specs.Forest.{Tree, Forest, Place, place, WellFormed}
use Rattle.tree_laws.specs.Action.{IsSplit}
use Rattle.tree_laws.specs.theory.Action.{put_node, IsReceived}
use Rattle.tree_laws.specs.Snapshot.{Snapshot, HasForest, nodes_at, IsOrphan}
use Rattle.tree_laws.specs.theory.Snapshot.{KeepsNodes}
use Rattle.tree_laws.specs.theory.Laws.{IsAt, Changed, StepsForest, after_replacement}
use Rattle.tree_laws.specs.theory.PageLaws.{IsOpenAt, Unseen}

-- a `Set` that may make any page hold 33 entries, a merging child too
abbrev pub SetOfMany : Type 0
SetOfMany = (nodes : Nodes) (roots : Tree → Option ℕ) (w : Forest) → WellFormed nodes roots w → (t : Tree) (p : ℕ) (n : Node) (k v : Key)
    → IsAt nodes w (place t 0) p n → Covers n k → Changed nodes (put_node nodes p (after_link (Set k v) n)) roots w t (put key_cmp k v) (count (after_link (Set k v) n).content ≤ 33)

-- a page that receives the page behind it, capped or not
abbrev pub ReceiveOfAny : Type 0
ReceiveOfAny = (nodes : Nodes) (roots : Tree → Option ℕ) (w : Forest) → WellFormed nodes roots w → (x : Place) (p c : ℕ) (n d both : Node)
    → IsOpenAt nodes w x p n → n.next ≡ Some c
    → nodes c ≡ Some d → IsReceived x.height n d both
    → (u : Unseen [] nodes (put_node nodes p both) roots w (count n.content ≤ 16)) × ((y : Place) → ¬ (In c (u.after.chain y)))

-- a split whose right half may be any other page, of a tree too
abbrev pub SplitToAny : Type 0
SplitToAny = (nodes : Nodes) (roots : Tree → Option ℕ) (w : Forest) → WellFormed nodes roots w → (x : Place) (p q : ℕ) (n left right : Node)
    → IsOpenAt nodes w x p n → nodes q ≡ Some right → q ≢ p → IsSplit x.height n left right q
    → (u : Unseen (q ∷ []) nodes (put_node nodes p left) roots w (Unit {0})) × In q (u.after.chain x)

-- a change of a page that is not the call's own and that has no home, so that it may be another call's own
abbrev pub ReplaceOfStray : Type 0
ReplaceOfStray = (mine : List ℕ) (m : Snapshot) (w v : Forest) (p : ℕ) (g new : Page) → HasForest m w → m.state.pages p ≡ Some g → g.node.merging ≡ false → m.versions new.version ≡ false
    → IsOrphan w p
    → WellFormed (put_node (nodes_at m) p new.node) m.state.roots v → KeepsNodes mine None (nodes_at m) (put_node (nodes_at m) p new.node) w v
    → StepsForest mine None m w (after_replacement m p new) v

pub record FalseLaws : Type 0 where
  -- a merging child would hold 18 entries
  pub set_of_many : SetOfMany → ⊥
  -- a page would have a pointer, be in no chain, and not be merging
  pub receive_of_any : ReceiveOfAny → ⊥
  -- a page would be in two trees
  pub split_to_any : SplitToAny → ⊥
  -- another call's page would have another version, though its node is the same
  pub replace_of_stray : ReplaceOfStray → ⊥
