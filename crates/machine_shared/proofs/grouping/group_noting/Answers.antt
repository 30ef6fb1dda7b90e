use Rattle.std.proofs.Common.{List, inl, refl, subst}
use Rattle.sled_batch.specs.Batch.{Writes}
use Rattle.sled_model.specs.declared.tree.Tree.{Tree}
use Rattle.machine_shared.specs.Transacted.{CannotNote}
use Rattle.machine_shared.proofs.grouping.group_noting.Goals as goal

pub returns-in-Err-clause-err : goal.returns-in-Err-clause-err
returns-in-Err-clause-err g c = inl (refl, subst (λ (bs : List (Tree × Writes)). CannotNote g.P.Pages.store g.M.MergeOperator.meant c.args.machine.now.db bs c.in-Err.e) c.as_slice.ensures.value c.in-Err.ensures.err)
