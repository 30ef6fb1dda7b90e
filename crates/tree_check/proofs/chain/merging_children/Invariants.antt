use Rattle.std.proofs.Common.{◌≡◌, ℕ, true}
use Rattle.std.specs.BTreeSet.{contains}
use Rattle.std.specs.Ordering.{nat_cmp}
use Rattle.tree_check.specs.theory.Walk.{HasMergingChild}
use Rattle.tree_check.proofs.chain.merging_children.Given as goal

abbrev pub invariant-loop-view : goal.invariant-loop-view
invariant-loop-view l = (c : ℕ) → contains nat_cmp l.children c ≡ true → HasMergingChild l.above c
