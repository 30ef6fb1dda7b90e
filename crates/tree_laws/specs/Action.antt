-- What page actions make of a page.
use Rattle.std.specs.Prelude.{◌≡◌, ℕ, false, ◌++◌, Some, None}
use Rattle.sled_nodes.specs.Order.{Below}
use Rattle.sled_nodes.specs.Node.{Within}
use Rattle.sled_nodes.specs.declared.node.Node.{Node}
use Rattle.sled_nodes.specs.declared.node.Data.{Data}
use Rattle.sled_nodes.specs.declared.node.Data.TheVariants.{Leaf, Index}
use Rattle.tree_laws.specs.Forest.{IsNodeAt}

-- two halves of the same kind
abbrev pub AreHalvesOf : Data → Data → Data → Type 0
AreHalvesOf (Leaf es) (Leaf a) (Leaf b) = es ≡ a ++ b
AreHalvesOf (Index es) (Index a) (Index b) = es ≡ a ++ b
AreHalvesOf (Leaf es) (Index a) c = ⊥
AreHalvesOf (Leaf es) (Leaf a) (Index b) = ⊥
AreHalvesOf (Index es) (Leaf a) c = ⊥
AreHalvesOf (Index es) (Index a) (Leaf b) = ⊥

-- n is split at the key right.lo, and the right half is the page q
pub record IsSplit (h : ℕ) (n : Node) (left right : Node) (q : ℕ) : Type 0 where
  pub left_sound : IsNodeAt h left
  pub right_sound : IsNodeAt h right
  pub halves : AreHalvesOf n.content left.content right.content
  pub left_lo : left.lo ≡ n.lo
  pub left_hi : left.hi ≡ right.lo
  pub left_next : left.next ≡ Some q
  pub right_hi : right.hi ≡ n.hi
  pub right_next : right.next ≡ n.next
  pub apart : Below n.lo right.lo
  pub within : Within n.lo n.hi right.lo
  pub calm : (left.merging ≡ false) × (left.merging_child ≡ None) × (right.merging ≡ false) × (right.merging_child ≡ None)
