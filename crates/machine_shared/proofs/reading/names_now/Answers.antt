use Rattle.machine_shared.proofs.ReadMakes.{all_named}
use Rattle.machine_shared.proofs.reading.names_now.Goals as goal

pub returns-clause-ok : goal.returns-clause-ok
returns-clause-ok g c = all_named g.P.Pages.store g.M.MergeOperator.meant c.args.machine.now c.names_of.result c.names_of.ensures.ok
