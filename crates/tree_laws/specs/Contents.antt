-- The contents of every tree, as a total function of the pages and the roots.
use Rattle.std.specs.Prelude.{ℕ, List, [], ◌++◌, Option, Some, None, option_map}
use Rattle.sled_nodes.specs.Order.{Key}
use Rattle.sled_nodes.specs.Node.{pointers}
use Rattle.sled_store.specs.State.{Nodes, State, nodes_of}
use Rattle.sled_nodes.specs.declared.node.Node.{Node}
use Rattle.tree_laws.specs.Forest.{Tree, first_child, node_pairs}

-- How many page numbers there are: no way by pages that are all different is longer.
-- The definition is shut, so that no proof computes with it.
unfoldable pub page_numbers : ℕ
page_numbers = 18446744073709551616

-- the next page, if there are the page and a next one
abbrev pub next_of : Option Node → Option ℕ
next_of None = None
next_of (Some n) = n.next

-- the page under the first pointer, if there are the page and a pointer
abbrev pub first_of : Option Node → Option ℕ
first_of None = None
first_of (Some n) = first_child (pointers n.content)

-- the pairs from this page on along `next`, over at most so many pages
abbrev pub along : ℕ → Nodes → Option ℕ → List (Key × Key)
along ℕ.zero nodes p = []
along (ℕ.suc n) nodes None = []
along (ℕ.suc n) nodes (Some p) = node_pairs (nodes p) ++ along n nodes (next_of (nodes p))

-- down by first pointers, at most so many times: from the page p, whose first pointer leads to c
abbrev pub first_leaf : ℕ → Nodes → ℕ → Option ℕ → ℕ
first_leaf ℕ.zero nodes p c = p
first_leaf (ℕ.suc n) nodes p None = p
first_leaf (ℕ.suc n) nodes p (Some c) = first_leaf n nodes c (first_of (nodes c))

-- the pairs of the tree with this root
abbrev pub pairs_under : Nodes → ℕ → List (Key × Key)
pairs_under nodes r = along page_numbers nodes (Some (first_leaf page_numbers nodes r (first_of (nodes r))))

-- the pairs of each tree; none if the name has no root
abbrev pub trees_of : State → Tree → Option (List (Key × Key))
trees_of s t = option_map (pairs_under (nodes_of s)) (s.roots t)
