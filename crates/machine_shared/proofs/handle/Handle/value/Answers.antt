use Rattle.std.proofs.Common.{subst}
use Rattle.machine_shared.specs.Reads.{OfTree}
use Rattle.machine_shared.specs.UnderLock.{ReadsUnderLock}
use Rattle.machine_shared.specs.Values.{CallerValue}
use Rattle.machine_shared.specs.declared.read.Answer.TheVariants as told
use Rattle.machine_shared.specs.declared.read.Question.TheVariants as asks
use Rattle.machine_shared.specs.declared.read.Read.TheVariants as read
use Rattle.machine_shared.proofs.handle.Handle.value.Goals as goal

pub returns-clause-looks : goal.returns-clause-looks
returns-clause-looks g c = subst (λ (m : CallerValue). ReadsUnderLock g.P.Pages.store g.M.MergeOperator.meant (OfTree c.args.tree.now (asks.Get c.args.key)) (λ it. read.Tree c.args.tree.now (asks.Get c.args.key) (told.Value it)) c.value_in-value.result m c.value_in-value.new.me) c.self.view_is c.value_in-value.ensures.looks
