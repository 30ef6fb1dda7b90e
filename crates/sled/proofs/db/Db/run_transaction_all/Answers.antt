use Rattle.std.specs.List.{zip}
use Rattle.std.proofs.Common.{map, Some, refl, ap, ◌∙◌, sym, inl}
use Rattle.sled.specs.Transactions.{RunsOnList, trees_of_list, has_trees}
use Rattle.sled.proofs.Transacting.{ran_of}
use Rattle.sled.proofs.db.Db.run_transaction_all.Goals as goal

pub run_on_list-ended-requires-after_bounds : goal.run_on_list-ended-requires-after_bounds
run_on_list-ended-requires-after_bounds g c κs within = c.requires c.in-Ok.ensures.tested c.as_slice.result.now (c.in-Ok.ensures.are ∙ ap (map Some) (sym c.as_slice.ensures.value))

pub returns : goal.returns
returns g c =
    let store = g.P.Pages.store in
    let trees = trees_of_list c.args.trees.now in
    ran_of store g.P.Pages.flush_number g.M.MergeOperator.meant _ (RunsOnList store g.M.MergeOperator.meant g.F.Fn g.R.TransactionAnswer.result_of c.args.f c.args.self.now trees) (zip trees) (has_trees trees) c.args.self.now c.run_on_list-ended.result c.run_on_list-ended.new.self
    (record { tested = c.in-Ok.ensures.tested; roots = c.as_slice.result.now; roots_are = c.in-Ok.ensures.are ∙ ap (map Some) (sym c.as_slice.ensures.value); runs = c.run_on_list-ended.ensures.runs }) c.run_on_list-ended.ensures.takes

pub returns-in-Err : goal.returns-in-Err
returns-in-Err g c = inl (c.in-Err.ensures.err, refl)
