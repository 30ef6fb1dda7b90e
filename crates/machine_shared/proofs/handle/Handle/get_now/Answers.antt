use Rattle.std.proofs.Common.{inr, subst}
use Rattle.std.proofs.lemmas.Result.{err_from_is_err_and}
use Rattle.sled_nodes.specs.Order.{Key}
use Rattle.machine_shared.specs.Reads.{OfTree}
use Rattle.machine_shared.specs.UnderLock.{ReadsUnderLock}
use Rattle.machine_shared.specs.declared.read.Answer.TheVariants as told
use Rattle.machine_shared.specs.declared.read.Question.TheVariants as asks
use Rattle.machine_shared.specs.declared.read.Read.TheVariants as read
use Rattle.machine_shared.proofs.UnderLocks.{unread}
use Rattle.machine_shared.proofs.handle.Handle.get_now.Goals as goal

pub returns-in_err-key-clause-looks : goal.returns-in_err-key-clause-looks
returns-in_err-key-clause-looks g c =
    let is = err_from_is_err_and c.from_residual.result c.from_residual.ensures.1 in
    unread c.from_residual.result is.0 c.in_err-key.field-0.0 c.args.self.now is.1 is.2 c.in_err-key.ensures.err

pub returns-clause-looks : goal.returns-clause-looks
returns-clause-looks g c = inr (subst (λ (k : Key). ReadsUnderLock g.P.Pages.store g.M.MergeOperator.meant (OfTree c.args.tree.now (asks.Get k)) (λ it. read.Tree c.args.tree.now (asks.Get k) (told.Value it)) c.value.result c.args.self.now c.value.new.self) c.in_ok-key.ensures.ok c.value.ensures.looks)
