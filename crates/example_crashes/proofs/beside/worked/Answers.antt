use Rattle.std.proofs.Common.{ℕ, All, IfSome}
use Rattle.sled_nodes.specs.Order.{Key}
use Rattle.sled_model.specs.declared.tree.Tree.{Tree}
use Rattle.example_crashes.specs.theory.Raised.{HasRaised}
use Rattle.example_crashes.proofs.Handles.{some_goes}
use Rattle.example_crashes.proofs.beside.worked.Goals as goal

pub returns-in-Ok-work_beside-clause-raised : goal.returns-in-Ok-work_beside-clause-raised
returns-in-Ok-work_beside-clause-raised g c =
    some_goes c.all_of.result (λ hs. (tree : Tree) (key : Key) (times : ℕ) → All (λ one. IfSome one (HasRaised tree key times)) c.in-Ok-work_beside.kept.items → All (HasRaised tree key times) hs.items) (λ hs. All (HasRaised c.args.tree.now c.args.key.now c.args.times) hs.items)
    (λ hs more. more c.args.tree.now c.args.key.now c.args.times c.in-Ok-work_beside.ensures) c.all_of.ensures
