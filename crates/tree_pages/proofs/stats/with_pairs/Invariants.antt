use Rattle.std.proofs.Common.{take}
use Rattle.tree_pages.specs.theory.Stats.{Weighs}
use Rattle.tree_pages.proofs.stats.with_pairs.Given as goal

-- the pairs so far are weighed
abbrev pub invariant-loop-pair : goal.invariant-loop-pair
invariant-loop-pair l = Weighs l.fn.before (take l.pair-index l.pairs) l.weight
