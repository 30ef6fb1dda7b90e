use Rattle.machine_shared.proofs.ReadMakes.{all_exported}
use Rattle.machine_shared.proofs.reading.export_now.Goals as goal

pub returns-clause-ok : goal.returns-clause-ok
returns-clause-ok g c = all_exported g.P.Pages.store g.M.MergeOperator.meant c.args.machine.now c.export_of.result c.audit.ensures.sound c.export_of.ensures.open c.export_of.ensures.all
