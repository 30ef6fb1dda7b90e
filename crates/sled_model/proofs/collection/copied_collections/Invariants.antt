use Rattle.std.proofs.Common.{◌≡◌, take}
use Rattle.sled_model.specs.Collections.{contents_of}
use Rattle.sled_model.proofs.collection.copied_collections.Given as goal

-- the collections so far are copied
abbrev pub invariant-loop-collection : goal.invariant-loop-collection
invariant-loop-collection l = contents_of l.copy.items ≡ contents_of (take l.collection-index l.collection-items)
