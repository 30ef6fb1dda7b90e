use Rattle.sled.specs.ManyKeys.{RefusesClear}
use Rattle.sled.proofs.Clearing.{some_number}
use Rattle.sled.proofs.db.Db.clear.Goals as goal

pub returns-clause-refuses : goal.returns-clause-refuses
returns-clause-refuses g c = some_number (λ n e. RefusesClear g.P.Pages.store g.M.MergeOperator.meant c.args.self.now c.args.tree.now n e c.clear_counted-done.new.self) _ c.clear_counted-done.result.0 c.clear_counted-done.ensures.refuses
