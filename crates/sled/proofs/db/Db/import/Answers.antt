use Rattle.sled_model.specs.Collections.{contents_of}
use Rattle.sled.specs.ManyKeys.{RefusesImport}
use Rattle.sled.proofs.Clearing.{some_number}
use Rattle.sled.proofs.db.Db.import.Goals as goal

pub returns-clause-refuses : goal.returns-clause-refuses
returns-clause-refuses g c = some_number (λ n e. RefusesImport g.P.Pages.store g.M.MergeOperator.meant c.args.self.now (contents_of c.args.collections.now) n e c.import_counted-done.new.self) _ c.import_counted-done.result.0 c.import_counted-done.ensures.refuses
