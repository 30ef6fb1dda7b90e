use Rattle.std.proofs.Common.{◌∙◌, sym}
use Rattle.sled.specs.Values.{db_state}
use Rattle.machine_shared.proofs.WholeTests.{all_pass, pass_each}
use Rattle.machine_shared.proofs.whole_tests.passes_on_all.Goals as goal

pub returns-then-is_open-clause-yes : goal.returns-then-is_open-clause-yes
returns-then-is_open-clause-yes g c h = all_pass (db_state g.P.Pages.store g.M.MergeOperator.meant c.args.machine.now.db) c.args.batches.now (sym c.is_open.ensures ∙ c.if-is_open.true) (c.passes_on_each.ensures.yes h)

pub returns-then-is_open-clause-no : goal.returns-then-is_open-clause-no
returns-then-is_open-clause-no g c e = c.passes_on_each.ensures.no (pass_each (db_state g.P.Pages.store g.M.MergeOperator.meant c.args.machine.now.db) c.args.batches.now e)
