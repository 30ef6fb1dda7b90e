use Rattle.machine_shared.proofs.Fetching.{nothing_done}
use Rattle.machine_shared.proofs.fetches.fetch_noting.Goals as goal

pub returns-in-Err-clause-err : goal.returns-in-Err-clause-err
returns-in-Err-clause-err g c = nothing_done g.P.Pages.store g.M.MergeOperator.meant c.args.machine.now

pub returns-in_default-clause-err : goal.returns-in_default-clause-err
returns-in_default-clause-err g c = nothing_done g.P.Pages.store g.M.MergeOperator.meant c.args.machine.now
