use Rattle.std.proofs.Common.{◌≡◌, map, take}
use Rattle.tree_lists.proofs.tree_list.names_of.Given as goal

-- the names so far are listed
abbrev pub invariant-loop-tree : goal.invariant-loop-tree
invariant-loop-tree l = l.names.items ≡ map (λ t. t.0) (take l.tree-index l.trees)
