-- Ways down a tree that repair nothing, and how many pages a tree has.
use Rattle.std.specs.Prelude.{◌≡◌, ℕ, ◌+◌, ◌≤◌, ◌⊎◌, Bool, true, List, [], ◌∷◌, ◌++◌, Option, Some, None, length}
use Rattle.std.specs.declared.ops.Bound.{Bound}
use Rattle.sled_nodes.specs.Order.{Key}
use Rattle.sled_nodes.specs.Among.{IsPointer}
use Rattle.sled_nodes.specs.Node.{count}
use Rattle.sled_store.specs.State.{State, Nodes, nodes_of}
use Rattle.sled_nodes.specs.declared.node.Node.{Node}
use Rattle.sled_nodes.specs.declared.node.Data.TheVariants.{Leaf, Index}
use Rattle.tree_laws.specs.Forest.{Tree, Forest, place}
use Rattle.tree_laws.specs.Contents.{page_numbers, next_of, first_of}
use Rattle.tree_laws.specs.Snapshot.{IsOpen, LiesUnder}

-- a page that a walk to its aim passes without a repair, and whether it was reached by a first pointer or is the root
pub record NeedsNoRepair (nodes : Nodes) (aim : Bound Key) (p : ℕ) (first : Bool) (n : Node) : Type 0 where
  pub live : nodes p ≡ Some n
  pub under : LiesUnder aim n
  pub is_open : IsOpen n
  pub fits : count n.content ≤ 16
  pub many : count n.content ≤ 3 → first ≡ true

-- from this page the list goes down to a leaf, by last pointers within the aim, over pages that are passed
abbrev pub CleanFrom : Nodes → Bound Key → ℕ → Bool → List ℕ → Type 0
CleanFrom nodes aim p first [] = ⊥
CleanFrom nodes aim p first (q ∷ rest) = (q ≡ p) × (n : Node) × NeedsNoRepair nodes aim p first n
    × (((es : List (Key × Key)) × (n.content ≡ Leaf es) × (rest ≡ []))
    ⊎ ((es : List (Key × ℕ)) × (n.content ≡ Index es) × (c : ℕ) × (b : Bool) × IsPointer aim es c b × CleanFrom nodes aim c b rest))

-- a clean path to the aim: one page of each level, from the root on
pub record IsClean (s : State) (t : Tree) (aim : Bound Key) (path : List ℕ) : Type 0 where
  pub root : ℕ
  pub is_root : s.roots t ≡ Some root
  pub clean : CleanFrom (nodes_of s) aim root true path

-- how many pages there are from this one on along `next`, and then on all levels below, at most so many of each
abbrev pub length_along : ℕ → Nodes → Option ℕ → ℕ
length_along ℕ.zero nodes p = 0
length_along (ℕ.suc n) nodes None = 0
length_along (ℕ.suc n) nodes (Some p) = length_along n nodes (next_of (nodes p)) + 1

abbrev pub pages_under : ℕ → Nodes → Option ℕ → ℕ
pages_under ℕ.zero nodes p = 0
pages_under (ℕ.suc n) nodes None = 0
pages_under (ℕ.suc n) nodes (Some p) = length_along page_numbers nodes (Some p) + pages_under n nodes (first_of (nodes p))

-- how many pages are in a tree's chains
abbrev pub tree_pages : State → Tree → ℕ
tree_pages s t = pages_under page_numbers (nodes_of s) (s.roots t)

-- the same of a forest: the pages of the levels below this height
abbrev pub pages_below : Forest → Tree → ℕ → ℕ
pages_below w t ℕ.zero = 0
pages_below w t (ℕ.suc h) = length (w.chain (place t h)) + pages_below w t h

-- A reading walk is at the page p, and this many pages are ahead of it: itself, those behind it on its level, and those of the
-- levels below
pub record IsAhead (w : Forest) (t : Tree) (h p ahead : ℕ) : Type 0 where
  pub before : List ℕ
  pub behind : List ℕ
  pub is : w.chain (place t h) ≡ before ++ p ∷ behind
  pub count : ahead ≡ length (p ∷ behind) + pages_below w t h
