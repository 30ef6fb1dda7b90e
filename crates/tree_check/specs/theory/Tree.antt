-- A tree from a height up: its chains and the pages that they have, as a walk from the root down finds them.
use Rattle.std.specs.Prelude.{◌≡◌, ℕ, suc, ◌≤◌, ◌⊎◌, true, List, [], Option, Some, None}
use Rattle.sled_nodes.specs.Order.{Key}
use Rattle.sled_nodes.specs.Node.{pointers, count}
use Rattle.sled_nodes.specs.declared.node.Node.{Node}
use Rattle.sled_store.specs.In.{In}
use Rattle.sled_store.specs.State.{Nodes}
use Rattle.tree_laws.specs.Forest.{IsNodeAt, Run, head, first_child, later}

-- what a page of this height is by itself
pub record IsPage (h : ℕ) (n : Node) : Type 0 where
  pub sound : IsNodeAt h n
  pub fits : count n.content ≤ 33
  pub calm : n.merging ≡ true → n.merging_child ≡ None
  pub child : (c : ℕ) → n.merging_child ≡ Some c → (k : Key) × In (k, c) (later (pointers n.content))

-- a pointer of the page n at the key k leads to the page c of this height
pub record IsPointerTo (nodes : Nodes) (home : ℕ → Option ℕ) (n : Node) (h : ℕ) (k : Key) (c : ℕ) : Type 0 where
  pub node : Node
  pub live : nodes c ≡ Some node
  pub homed : home c ≡ Some h
  pub key : node.lo ≡ k
  pub merged : node.merging ≡ true → n.merging_child ≡ Some c
  pub few : n.merging_child ≡ Some c → count node.content ≤ 17

-- a page of this height in the tree of these chains
pub record IsAtHeight (nodes : Nodes) (chain : ℕ → List ℕ) (p h : ℕ) : Type 0 where
  pub node : Node
  pub live : nodes p ≡ Some node
  pub page : IsPage h node
  pub stands : In p (chain h) ⊎ (node.merging ≡ true)
  pub parent : node.merging ≡ true → (q : ℕ) × (m : Node) × In q (chain (suc h)) × (nodes q ≡ Some m) × (m.merging_child ≡ Some p)

-- The levels of a tree from this height up, by the chain of each height and the height of each page
pub record IsTreeFrom (nodes : Nodes) (h : ℕ) (chain : ℕ → List ℕ) (home : ℕ → Option ℕ) : Type 0 where
  pub homed : (g p : ℕ) → h ≤ g → In p (chain g) → home p ≡ Some g
  pub page : (p g : ℕ) → home p ≡ Some g → (h ≤ g) × IsAtHeight nodes chain p g
  pub run : (g : ℕ) → h ≤ g → (chain g ≡ []) ⊎ Run nodes (chain g) (head (chain g)) [] None []
  pub pointer : (g p : ℕ) (n : Node) → h ≤ g → In p (chain (suc g)) → nodes p ≡ Some n → (k : Key) (c : ℕ) → In (k, c) (pointers n.content) → IsPointerTo nodes home n g k c
  pub down : (g p : ℕ) (n : Node) → h ≤ g → head (chain (suc g)) ≡ Some p → nodes p ≡ Some n → head (chain g) ≡ first_child (pointers n.content)

-- the uppermost level begins with the root
pub record IsTop (root h : ℕ) (chain : ℕ → List ℕ) : Type 0 where
  pub height : ℕ
  pub above : h ≤ height
  pub begins : head (chain height) ≡ Some root
  pub none : chain (suc height) ≡ []
