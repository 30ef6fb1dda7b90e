use Rattle.std.proofs.Common.{◌≡◌, take}
use Rattle.sled_model.proofs.collection.copied_pairs.Given as goal

-- the pairs so far are copied
abbrev pub invariant-loop-pair : goal.invariant-loop-pair
invariant-loop-pair l = l.copy.items ≡ take l.pair-index l.pair-items
