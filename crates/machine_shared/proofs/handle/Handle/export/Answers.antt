use Rattle.std.proofs.Common.{subst}
use Rattle.machine_shared.specs.Reads.{OfAll}
use Rattle.machine_shared.specs.UnderLock.{ReadsUnderLock}
use Rattle.machine_shared.specs.Values.{CallerValue}
use Rattle.machine_shared.specs.declared.read.Read.TheVariants as read
use Rattle.machine_shared.proofs.handle.Handle.export.Goals as goal

pub returns-clause-looks : goal.returns-clause-looks
returns-clause-looks g c = subst (λ (m : CallerValue). ReadsUnderLock g.P.Pages.store g.M.MergeOperator.meant OfAll (λ all. read.Export all) c.export_in-all.result m c.export_in-all.new.me) c.self.view_is c.export_in-all.ensures.looks
