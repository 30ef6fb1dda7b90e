use Rattle.std.proofs.Common.{subst}
use Rattle.machine_shared.specs.Reads.{OfTree}
use Rattle.machine_shared.specs.UnderLock.{ReadsUnderLock}
use Rattle.machine_shared.specs.Values.{CallerValue}
use Rattle.machine_shared.specs.declared.read.Read.TheVariants as read
use Rattle.machine_shared.proofs.handle.Handle.read.Goals as goal

pub returns-clause-looks : goal.returns-clause-looks
returns-clause-looks g c = subst (λ (m : CallerValue). ReadsUnderLock g.P.Pages.store g.M.MergeOperator.meant (OfTree c.args.tree.now c.args.question) (λ answer. read.Tree c.args.tree.now c.args.question answer) c.read_in-answer.result m c.read_in-answer.new.me) c.self.view_is c.read_in-answer.ensures.looks
