use Rattle.example_progress.proofs.Turning.{begins}
use Rattle.example_progress.proofs.begin.Goals as goal

pub returns-clause-reached : goal.returns-clause-reached
returns-clause-reached g c =
    begins g.P.Pages.store g.P.Pages.flush_number g.M.MergeOperator.meant c.args.machine.now c.begin-begun.new.self c.args.tree.now c.args.call c.begin-begun.result c.requires c.begin-begun.ensures.ok c.begin-begun.ensures.err
    (record { db = c.audit.ensures.sound; calls = c.audit.ensures.known })
