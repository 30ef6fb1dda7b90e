use Rattle.std.proofs.Common.{◌∙◌, refl, inl}
use Rattle.std.specs.List.{zip}
use Rattle.sled.specs.Values.{db_state}
use Rattle.sled.specs.Transactions.{trees_of_list}
use Rattle.sled.proofs.Grouping.{group_short}
use Rattle.sled.proofs.Transacting.{tested_zip, committed, uncommitted}
use Rattle.sled.proofs.db.Db.commit_list.Goals as goal

pub returns-in-Err-clause-err : goal.returns-in-Err-clause-err
returns-in-Err-clause-err g c =
    let trees = trees_of_list c.args.trees.now in
    record { is = inl (group_short g.P.Pages.store g.M.MergeOperator.meant c.args.self.now (zip trees c.args.writes.items) (tested_zip (db_state g.P.Pages.store g.M.MergeOperator.meant c.args.self.now) trees c.args.writes.items c.requires) c.in-Err.e c.in-Err.ensures.err, record { is = λ e. refl }) }

pub returns-clause-ok : goal.returns-clause-ok
returns-clause-ok g c = committed g.P.Pages.store g.P.Pages.flush_number g.M.MergeOperator.meant _ _ _ _ _ (c.as_slice.ensures.value ∙ c.in-Ok.ensures.ok) c.args.flushes c.in_default.ensures.ok c.apply_group-made.ensures.quiet c.flush_where.result c.flush_where.ensures.ok

pub returns-clause-err : goal.returns-clause-err
returns-clause-err g c = uncommitted g.P.Pages.store g.P.Pages.flush_number g.M.MergeOperator.meant _ _ _ _ _ (c.as_slice.ensures.value ∙ c.in-Ok.ensures.ok) c.args.flushes c.in_default.ensures.ok c.apply_group-made.ensures.quiet c.flush_where.result c.flush_where.ensures.err
