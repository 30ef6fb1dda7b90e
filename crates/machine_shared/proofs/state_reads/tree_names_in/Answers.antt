use Rattle.machine_shared.specs.UnderLock.{IsDone}
use Rattle.machine_shared.proofs.state_reads.tree_names_in.Goals as goal

pub returns-in-Some-clause-looks : goal.returns-in-Some-clause-looks
returns-in-Some-clause-looks g c = IsDone (record { old = _; new = c.tree_names-names.new.self; before = c.audit.ensures.held; after = c.audit-in-Some.ensures.held; is = c.tree_names-names.ensures.looks })
