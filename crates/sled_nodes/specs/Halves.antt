-- A node that is split, and one that receives the node behind it.
use Rattle.std.specs.Prelude.{◌/◌, false, take, drop, length, List, [], ◌∷◌, ◌++◌, None}
use Rattle.sled_nodes.specs.Order.{Key}
use Rattle.sled_nodes.specs.declared.node.Node.{Node}
use Rattle.sled_nodes.specs.declared.node.Data.{Data}
use Rattle.sled_nodes.specs.declared.node.Data.TheVariants.{Leaf, Index}

-- the first half of a list, rounded down, and the rest
abbrev pub first_half : {X : Type 0} → List X → List X
first_half es = take (length es / 2) es

abbrev pub second_half : {X : Type 0} → List X → List X
second_half es = drop (length es / 2) es

abbrev pub first_half_of : Data → Data
first_half_of (Leaf es) = Leaf (first_half es)
first_half_of (Index es) = Index (first_half es)

abbrev pub second_half_of : Data → Data
second_half_of (Leaf es) = Leaf (second_half es)
second_half_of (Index es) = Index (second_half es)

-- the key of the first entry
abbrev pub first_key : {X : Type 0} → List (Key × X) → Key
first_key [] = []
first_key (e ∷ es) = e.0

abbrev pub first_key_of : Data → Key
first_key_of (Leaf es) = first_key es
first_key_of (Index es) = first_key es

-- The halves of a node: the right one begins at its first key and goes on as the node did, the left one ends where the right one begins.
-- The left one's `next` is still to be set. Both are open
abbrev pub right_half : Node → Node
right_half n = record { lo = first_key_of (second_half_of n.content); hi = n.hi; next = n.next; merging = false; merging_child = None; content = second_half_of n.content }

abbrev pub left_half : Node → Node
left_half n = record { lo = n.lo; hi = first_key_of (second_half_of n.content); next = None; merging = false; merging_child = None; content = first_half_of n.content }

-- the entries of two nodes of one kind, one after the other; of two kinds those of the first
abbrev pub appended : Data → Data → Data
appended (Leaf es) (Leaf fs) = Leaf (es ++ fs)
appended (Index es) (Index fs) = Index (es ++ fs)
appended (Leaf es) (Index fs) = Leaf es
appended (Index es) (Leaf fs) = Index es

-- a node with the entries, the end and the `next` of the one behind it
abbrev pub after_receiving : Node → Node → Node
after_receiving n c = record n { hi = c.hi; next = c.next; content = appended n.content c.content }
