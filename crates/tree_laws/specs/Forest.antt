-- What is well formed, half-done splits, hoists and merges included.
use Rattle.std.specs.Prelude.{◌≡◌, ℕ, suc, ◌≤◌, ◌⊎◌, true, T, List, [], ◌∷◌, Option, Some, None, MatchOption, flat_map}
use Rattle.std.specs.FinMap.{is_sorted}
use Rattle.std.specs.List.{AllByRecursion}
use Rattle.sled_nodes.specs.Order.{Key, key_cmp, Below}
use Rattle.sled_store.specs.In.{In}
use Rattle.sled_nodes.specs.Node.{pairs, pointers, count, Within}
use Rattle.sled_store.specs.State.{Nodes}
use Rattle.sled_nodes.specs.declared.node.Node.{Node}
use Rattle.sled_nodes.specs.declared.node.Data.{Data}
use Rattle.sled_nodes.specs.declared.node.Data.TheVariants.{Leaf, Index}

-- a tree is its name
abbrev pub Tree : Type 0
Tree = Key

-- A level of a tree: leaves are at height 0 and a hoist adds a level on top, so a page's place never changes
pub record Place : Type 0 where
  pub tree : Tree
  pub height : ℕ

abbrev pub place : Tree → ℕ → Place
place t h = record { tree = t; height = h }

-- The witness of well-formedness: the chain of pages at each place, and the home of each page that is in a chain, or
-- that was received and still has its pointer
pub record Forest : Type 0 where
  pub chain : Place → List ℕ
  pub home : ℕ → Option Place

-- the first page of a chain
abbrev pub head : List ℕ → Option ℕ
head [] = None
head (p ∷ ps) = Some p

abbrev pub first_key : List (Key × ℕ) → Option Key
first_key [] = None
first_key (e ∷ es) = Some e.0

abbrev pub first_child : List (Key × ℕ) → Option ℕ
first_child [] = None
first_child (e ∷ es) = Some e.1

-- the pointers but the first
abbrev pub later : List (Key × ℕ) → List (Key × ℕ)
later [] = []
later (e ∷ es) = es

-- leaves are at height 0, indexes above; entries ascend within the bounds; an index's first key is its lo
abbrev pub Holds : ℕ → Key → Key → Data → Type 0
Holds ℕ.zero lo hi (Leaf es) = T (is_sorted key_cmp es) × AllByRecursion (λ e. Within lo hi e.0) es
Holds (ℕ.suc h) lo hi (Index es) = T (is_sorted key_cmp es) × AllByRecursion (λ e. Within lo hi e.0) es × (first_key es ≡ Some lo)
Holds ℕ.zero lo hi (Index es) = ⊥
Holds (ℕ.suc h) lo hi (Leaf es) = ⊥

-- what a page of this height is by itself, whatever its size
pub record IsNodeAt (h : ℕ) (n : Node) : Type 0 where
  pub holds : Holds h n.lo n.hi n.content

-- the page p is n, it is where `from` leads, its lo is the last hi, and it has a next page only if its bounds rise
pub record IsLink (nodes : Nodes) (from : Option ℕ) (lo : Key) (p : ℕ) (n : Node) : Type 0 where
  pub live : nodes p ≡ Some n
  pub here : from ≡ Some p
  pub lo_is : lo ≡ n.lo
  pub rises : (n.next ≡ None) ⊎ Below n.lo n.hi

-- a part of a chain: from the edge (from, lo) to the edge (to, hi)
abbrev pub Run : Nodes → List ℕ → Option ℕ → Key → Option ℕ → Key → Type 0
Run nodes [] from lo to hi = (from ≡ to) × (lo ≡ hi)
Run nodes (p ∷ ps) from lo to hi = (n : Node) × IsLink nodes from lo p n × Run nodes ps n.next n.hi to hi

-- Of each page with a home: it is live and sound; it is in the chain or is merging; a merging page has no merging child,
-- and is itself the merging child of a chain page of the level above
pub record IsHomed (nodes : Nodes) (w : Forest) (p : ℕ) (x : Place) (n : Node) : Type 0 where
  pub live : nodes p ≡ Some n
  pub sound : IsNodeAt x.height n
  pub stands : In p (w.chain x) ⊎ (n.merging ≡ true)
  pub calm : n.merging ≡ true → n.merging_child ≡ None
  pub parent : n.merging ≡ true → (q : ℕ) × (m : Node) × In q (w.chain (place x.tree (suc x.height))) × (nodes q ≡ Some m) × (m.merging_child ≡ Some p)

-- A pointer of the page n at the key k to the page c: c is live, of the level below, its lo is k, and it is merging only
-- as n's merging child
pub record IsPointer (nodes : Nodes) (w : Forest) (n : Node) (t : Tree) (h : ℕ) (k : Key) (c : ℕ) : Type 0 where
  pub node : Node
  pub live : nodes c ≡ Some node
  pub homed : w.home c ≡ Some (place t h)
  pub key : node.lo ≡ k
  pub merged : node.merging ≡ true → n.merging_child ≡ Some c

-- The pages and the roots have this shape:
pub record WellFormed (nodes : Nodes) (roots : Tree → Option ℕ) (w : Forest) : Type 0 where
  -- a page is in one chain at most
  pub homed : (x : Place) (p : ℕ) → In p (w.chain x) → w.home p ≡ Some x
  pub page : (x : Place) (p : ℕ) → w.home p ≡ Some x → (n : Node) × IsHomed nodes w p x n
  -- a chain goes by `next` from the empty lo to the empty hi, and its last page has no next
  pub run : (x : Place) → (w.chain x ≡ []) ⊎ Run nodes (w.chain x) (head (w.chain x)) [] None []
  pub pointer : (t : Tree) (h p : ℕ) (n : Node) → In p (w.chain (place t (suc h))) → nodes p ≡ Some n → (k : Key) (c : ℕ) → In (k, c) (pointers n.content) → IsPointer nodes w n t h k c
  -- a merging child is a pointer of its page, not the first
  pub child : (x : Place) (p : ℕ) (n : Node) → In p (w.chain x) → nodes p ≡ Some n → (c : ℕ) → n.merging_child ≡ Some c → (k : Key) × In (k, c) (later (pointers n.content))
  -- a level begins where the first pointer of the level above leads
  pub down : (t : Tree) (h p : ℕ) (n : Node) → head (w.chain (place t (suc h))) ≡ Some p → nodes p ≡ Some n → head (w.chain (place t h)) ≡ first_child (pointers n.content)
  -- the top level begins with the root; a name without a root has no level
  pub top : (t : Tree) → MatchOption (roots t) ((h : ℕ) → w.chain (place t h) ≡ []) (λ r. (h : ℕ) × (head (w.chain (place t h)) ≡ Some r) × (w.chain (place t (suc h)) ≡ []))

-- The pages have at most this size: 33 entries, and 17 of a merging child
pub record IsSized (nodes : Nodes) (w : Forest) : Type 0 where
  pub fits : (x : Place) (p : ℕ) (n : Node) → w.home p ≡ Some x → nodes p ≡ Some n → count n.content ≤ 33
  pub child : (x : Place) (p c : ℕ) (n d : Node) → In p (w.chain x) → nodes p ≡ Some n → n.merging_child ≡ Some c → nodes c ≡ Some d → count d.content ≤ 17

-- the pairs of a page that may be there
abbrev pub node_pairs : Option Node → List (Key × Key)
node_pairs None = []
node_pairs (Some n) = pairs n.content

-- the pairs of a tree, along its leaves
abbrev pub contents : Nodes → Forest → Tree → List (Key × Key)
contents nodes w t = flat_map (λ p. node_pairs (nodes p)) (w.chain (place t 0))
