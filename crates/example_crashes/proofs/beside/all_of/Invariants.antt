use Rattle.std.proofs.Common.{ℕ, length, All, IfSome}
use Rattle.sled_nodes.specs.Order.{Key}
use Rattle.sled_model.specs.declared.tree.Tree.{Tree}
use Rattle.example_crashes.specs.theory.Raised.{HasRaised}
use Rattle.example_crashes.proofs.beside.all_of.Given as goal

abbrev pub invariant-loop-one : goal.invariant-loop-one
invariant-loop-one g l =
    (tree : Tree) (key : Key) (times : ℕ) → All (λ one. IfSome one (HasRaised tree key times)) l.fn.kept.items
    → All (λ one. IfSome one (HasRaised tree key times)) l.kept.items × All (HasRaised tree key times) l.handles.items

abbrev pub decreases-loop-one : goal.decreases-loop-one
decreases-loop-one g l = length l.kept.items
