-- What is left to repair in a tree, as a number, from its pages alone.
use Rattle.std.specs.Prelude.{ℕ, ◌+◌, Bool, true, false, nat_eq, map, flat_map, sum_by, List, [], ◌∷◌, Option, Some, None, option_to_list}
use Rattle.std.specs.List.{list_any}
use Rattle.sled_nodes.specs.Node.{pointers, count}
use Rattle.sled_store.specs.State.{State, Nodes, nodes_of}
use Rattle.sled_nodes.specs.declared.node.Node.{Node}
use Rattle.tree_laws.specs.Forest.{Tree}
use Rattle.tree_laws.specs.Contents.{page_numbers, next_of, first_of}
use Rattle.tree_progress.specs.Weights.{weight, first_weight, child_weight, pointer_weight, received_weight}

-- whether the page is among these
abbrev pub is_in : ℕ → List ℕ → Bool
is_in p ps = list_any (nat_eq p) ps

-- where the pointers of a page lead, and its merging child, if it has one
abbrev pub led_to : Option Node → List ℕ
led_to None = []
led_to (Some n) = map (λ e. e.1) (pointers n.content)

abbrev pub merges : Option Node → List ℕ
merges None = []
merges (Some n) = option_to_list n.merging_child

-- the pages that the pointers of a level lead to, and the merging children of its pages
abbrev pub pointed : Nodes → List ℕ → List ℕ
pointed nodes above = flat_map (λ p. led_to (nodes p)) above

abbrev pub children : Nodes → List ℕ → List ℕ
children nodes above = flat_map (λ p. merges (nodes p)) above

-- what a page weighs, a merging child or none, and what the first page of a level does
abbrev pub weight_of : Bool → Option Node → ℕ
weight_of child None = 0
weight_of false (Some n) = weight (count n.content)
weight_of true (Some n) = child_weight n.merging (count n.content)

abbrev pub first_weight_of : Option Node → ℕ
first_weight_of None = 0
first_weight_of (Some n) = first_weight (count n.content)

-- a page that is not the first of its level, below the level `above`
abbrev pub page_weight : Nodes → List ℕ → ℕ → ℕ
page_weight nodes above p = weight_of (is_in p (children nodes above)) (nodes p) + pointer_weight (is_in p (pointed nodes above))

-- the pages of a level
abbrev pub chain_weight : Nodes → List ℕ → List ℕ → ℕ
chain_weight nodes above [] = 0
chain_weight nodes above (p ∷ ps) = first_weight_of (nodes p) + sum_by (page_weight nodes above) ps

-- a level: its pages, and the merging children that were received
abbrev pub level_weight : Nodes → List ℕ → List ℕ → ℕ
level_weight nodes above chain = chain_weight nodes above chain + sum_by (λ c. received_weight (is_in c chain)) (children nodes above)

-- the pages from this one on along `next`, at most so many
abbrev pub pages_along : ℕ → Nodes → Option ℕ → List ℕ
pages_along ℕ.zero nodes p = []
pages_along (ℕ.suc n) nodes None = []
pages_along (ℕ.suc n) nodes (Some p) = p ∷ pages_along n nodes (next_of (nodes p))

-- the level that begins with this page, below the level `above`, and the levels below it, at most so many
abbrev pub to_do_under : ℕ → Nodes → List ℕ → Option ℕ → ℕ
to_do_under ℕ.zero nodes above p = 0
to_do_under (ℕ.suc n) nodes above None = 0
to_do_under (ℕ.suc n) nodes above (Some p) =
    level_weight nodes above (pages_along page_numbers nodes (Some p)) + to_do_under n nodes (pages_along page_numbers nodes (Some p)) (first_of (nodes p))

-- what is left to repair in a tree; nothing is above its root
abbrev pub to_do : State → Tree → ℕ
to_do s t = to_do_under page_numbers (nodes_of s) [] (s.roots t)
