use Rattle.std.proofs.Common.{subst}
use Rattle.machine_shared.specs.Reads.{OfNames}
use Rattle.machine_shared.specs.UnderLock.{ReadsUnderLock}
use Rattle.machine_shared.specs.Values.{CallerValue}
use Rattle.machine_shared.specs.declared.read.Read.TheVariants as read
use Rattle.machine_shared.proofs.handle.Handle.tree_names.Goals as goal

pub returns-clause-looks : goal.returns-clause-looks
returns-clause-looks g c = subst (λ (m : CallerValue). ReadsUnderLock g.P.Pages.store g.M.MergeOperator.meant OfNames (λ names. read.Names names) c.tree_names_in-names.result m c.tree_names_in-names.new.me) c.self.view_is c.tree_names_in-names.ensures.looks
