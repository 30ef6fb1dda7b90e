use Rattle.std.proofs.Common.{◌≡◌, map, take}
use Rattle.sled_store.specs.Store.{now}
use Rattle.tree_laws.specs.Contents.{trees_of}
use Rattle.tree_pages.specs.Export.{collections}
use Rattle.tree_pages.proofs.export.collections_of.Given as goal

-- the trees so far are collected
abbrev pub invariant-loop-tree : goal.invariant-loop-tree
invariant-loop-tree g l = map (λ c. (c.0.items, c.1.items, c.2.items)) l.all.items ≡ collections (trees_of (now (g.P.Pages.store l.pages))) (take l.tree-index l.trees)
