-- The bytes of a node, a link and a change. A number is eight bytes, the lowest first.
--
-- No link and no change begins with 0, so bytes that were never written are none.
use Rattle.std.specs.Prelude.{◌<◌, ◌^◌, ℕ, Bool, true, false, List, [], ◌∷◌, ◌++◌, length, Option, Some, None, IfSome}
use Rattle.std.specs.List.{flat_map, All}
use Rattle.std.specs.Int.{w64, to_le_bytes}
use Rattle.sled_nodes.specs.Order.{Key}
use Rattle.sled_nodes.specs.Node.{pairs, pointers, count}
use Rattle.sled_nodes.specs.declared.node.Node.{Node}
use Rattle.sled_nodes.specs.declared.node.Data.{Data}
use Rattle.sled_nodes.specs.declared.node.Data.TheVariants.{Leaf, Index}
use Rattle.sled_nodes.specs.declared.link.Link.{Link}
use Rattle.sled_nodes.specs.declared.link.Link.TheVariants.{Set, Del, ParentMergeIntention, ParentMergeConfirm, ChildMergeCap}
use Rattle.sled_bytes.specs.declared.change.Change.{Change}
use Rattle.sled_bytes.specs.declared.change.Change.TheVariants.{Given, Linked, Freed, Rooted, Begun, Sealed, Marked, Limited}

unfoldable pub number : ℕ → List ℕ
number n = to_le_bytes w64 n

-- how many bytes, and the bytes
unfoldable pub string : Key → List ℕ
string bytes = number (length bytes) ++ bytes

abbrev pub flag : Bool → List ℕ
flag true = 1 ∷ []
flag false = 0 ∷ []

-- whether there is one, and the number
abbrev pub optional : Option ℕ → List ℕ
optional None = 0 ∷ []
optional (Some n) = 1 ∷ number n

abbrev pub pair : Key × Key → List ℕ
pair e = string e.0 ++ string e.1

abbrev pub pointer : Key × ℕ → List ℕ
pointer e = string e.0 ++ number e.1

-- how many, and each, one after the other
abbrev pub several : {X : Type 0} → (X → List ℕ) → List X → List ℕ
several spell xs = number (length xs) ++ flat_map spell xs

-- whether it is an index, and the entries
unfoldable pub content_bytes : Data → List ℕ
content_bytes (Leaf es) = flag false ++ several pair es
content_bytes (Index es) = flag true ++ several pointer es

unfoldable pub bounds_bytes : Node → List ℕ
bounds_bytes n = string n.lo ++ string n.hi

unfoldable pub kin_bytes : Node → List ℕ
kin_bytes n = optional n.next ++ flag n.merging ++ optional n.merging_child

-- the bounds, the next page, whether it is merging and its merging child, and the entries
abbrev pub node_bytes : Node → List ℕ
node_bytes n = bounds_bytes n ++ kin_bytes n ++ content_bytes n.content

-- which of several kinds
abbrev pub kind : ℕ → List ℕ
kind n = n ∷ []

abbrev pub link_bytes : Link → List ℕ
link_bytes (Set key value) = kind 1 ++ pair (key, value)
link_bytes (Del key) = kind 2 ++ string key
link_bytes (ParentMergeIntention child) = kind 3 ++ number child
link_bytes ParentMergeConfirm = kind 4
link_bytes ChildMergeCap = kind 5

-- two numbers
abbrev pub numbers : ℕ → ℕ → List ℕ
numbers m n = number m ++ number n

abbrev pub change_bytes : Change → List ℕ
change_bytes (Given pid version node) = kind 1 ++ numbers pid version ++ node_bytes node
change_bytes (Linked pid version link) = kind 2 ++ numbers pid version ++ link_bytes link
change_bytes (Freed pid) = kind 3 ++ number pid
change_bytes (Rooted name root) = kind 4 ++ string name ++ optional root
change_bytes Begun = kind 5
change_bytes Sealed = kind 6
change_bytes (Marked upto) = kind 7 ++ number upto
change_bytes (Limited pids versions) = kind 8 ++ numbers pids versions

-- a byte string that has bytes: its length has 64 bits
abbrev pub FitsString : Key → Type 0
FitsString bytes = length bytes < 2 ^ 64

abbrev pub FitsNumber : ℕ → Type 0
FitsNumber n = n < 2 ^ 64

abbrev pub FitsPair : Key × Key → Type 0
FitsPair e = FitsString e.0 × FitsString e.1

abbrev pub FitsPointer : Key × ℕ → Type 0
FitsPointer e = FitsString e.0 × FitsNumber e.1

-- a node that has bytes: its lengths and numbers have 64 bits each, as those of every node of a program do
pub record FitsBytes (n : Node) : Type 0 where
  pub lo : FitsString n.lo
  pub hi : FitsString n.hi
  pub next : IfSome n.next FitsNumber
  pub merging_child : IfSome n.merging_child FitsNumber
  pub count : FitsNumber (count n.content)
  pub pairs : All FitsPair (pairs n.content)
  pub pointers : All FitsPointer (pointers n.content)

abbrev pub FitsLink : Link → Type 0
FitsLink (Set key value) = FitsPair (key, value)
FitsLink (Del key) = FitsString key
FitsLink (ParentMergeIntention child) = FitsNumber child
FitsLink ParentMergeConfirm = Unit {0}
FitsLink ChildMergeCap = Unit {0}

-- a change that has bytes, as every change of a program does
abbrev pub FitsChange : Change → Type 0
FitsChange (Given pid version node) = FitsNumber pid × FitsNumber version × FitsBytes node
FitsChange (Linked pid version link) = FitsNumber pid × FitsNumber version × FitsLink link
FitsChange (Freed pid) = FitsNumber pid
FitsChange (Rooted name root) = FitsString name × IfSome root FitsNumber
FitsChange Begun = Unit {0}
FitsChange Sealed = Unit {0}
FitsChange (Marked upto) = FitsNumber upto
FitsChange (Limited pids versions) = FitsNumber pids × FitsNumber versions
