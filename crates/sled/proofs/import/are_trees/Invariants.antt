use Rattle.std.proofs.Common.{◌≡◌, drop}
use Rattle.sled_model.specs.Collections.{contents_of, are_trees}
use Rattle.sled.proofs.import.are_trees.Given as goal

-- those so far are trees
abbrev pub invariant-loop-collection : goal.invariant-loop-collection
invariant-loop-collection l = are_trees (contents_of l.collections) ≡ are_trees (contents_of (drop l.collection-index l.collections))
