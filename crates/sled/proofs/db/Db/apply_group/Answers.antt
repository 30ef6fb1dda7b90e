use Rattle.std.proofs.Common.{Err}
use Rattle.sled.proofs.Grouping.{group_untested, group_unread, group_ok, group_err, group_db, group_quiet}
use Rattle.sled.proofs.Mapping.{group_changes}
use Rattle.sled.proofs.Keeping.{group_refuses, group_leaves}
use Rattle.sled.proofs.Writing.{group_wrote}
use Rattle.sled.proofs.db.Db.apply_group.Goals as goal

pub returns-in-Err-clause-err : goal.returns-in-Err-clause-err
returns-in-Err-clause-err g c = group_untested g.P.Pages.store g.M.MergeOperator.meant c.args.self.now c.args.batches.now c.in-Err.e c.in-Err.ensures.err

pub returns-in-Err-changes-clause-err : goal.returns-in-Err-changes-clause-err
returns-in-Err-changes-clause-err g c = group_unread g.P.Pages.store g.M.MergeOperator.meant c.args.self.now c.args.batches.now c.in_default.ensures.ok c.in-Err-changes.e c.in-Err-changes.ensures.err

pub invariant_of-self : goal.invariant_of-self
invariant_of-self g c = group_db g.P.Pages.store g.M.MergeOperator.meant _ c.args.self.now c.self.view_is c.self.invariant c.args.batches.now c.in_default.ensures.ok c.in-Ok.writes.items c.in-Ok.ensures.ok c.make_group-made.new.pages c.make_group-made.new.queues c.make_group-made.result (rw c.as_slice.ensures.value at c.make_group-made.ensures.ok) (rw c.as_slice.ensures.value at c.make_group-made.ensures.err)

pub returns-clause-ok : goal.returns-clause-ok
returns-clause-ok g c = group_ok g.P.Pages.store g.M.MergeOperator.meant _ c.args.self.now c.self.view_is c.self.invariant c.args.batches.now c.in_default.ensures.ok c.in-Ok.writes.items c.in-Ok.ensures.ok c.make_group-made.new.pages c.make_group-made.new.queues c.make_group-made.result (rw c.as_slice.ensures.value at c.make_group-made.ensures.ok)

pub returns-clause-err : goal.returns-clause-err
returns-clause-err g c = group_err g.P.Pages.store g.M.MergeOperator.meant _ c.args.self.now c.self.view_is c.self.invariant c.args.batches.now c.in_default.ensures.ok c.in-Ok.writes.items c.in-Ok.ensures.ok c.make_group-made.new.pages c.make_group-made.new.queues c.make_group-made.result (rw c.as_slice.ensures.value at c.make_group-made.ensures.err)

pub returns-clause-quiet : goal.returns-clause-quiet
returns-clause-quiet g c = group_quiet g.P.Pages.store g.M.MergeOperator.meant _ c.args.self.now c.self.view_is c.self.invariant c.args.batches.now c.in_default.ensures.ok c.in-Ok.writes.items c.in-Ok.ensures.ok c.make_group-made.new.pages c.make_group-made.new.queues c.make_group-made.result (rw c.as_slice.ensures.value at c.make_group-made.ensures.ok) (rw c.as_slice.ensures.value at c.make_group-made.ensures.err)

pub returns-clause-changes : goal.returns-clause-changes
returns-clause-changes g c = group_changes g.P.Pages.store g.M.MergeOperator.meant _ _ _ _ (returns-clause-ok g c)

pub returns-in-Err-clause-refuses : goal.returns-in-Err-clause-refuses
returns-in-Err-clause-refuses g c = group_refuses g.P.Pages.store g.M.MergeOperator.meant _ _ _ {A = Unit {0}} (Err _) (returns-in-Err-clause-err g c)

pub returns-in-Err-clause-leaves : goal.returns-in-Err-clause-leaves
returns-in-Err-clause-leaves g c = group_leaves g.P.Pages.store g.M.MergeOperator.meant _ _ c.args.batches.now {A = Unit {0}} (Err _) tt (returns-in-Err-clause-err g c)

pub returns-in-Err-changes-clause-refuses : goal.returns-in-Err-changes-clause-refuses
returns-in-Err-changes-clause-refuses g c = group_refuses g.P.Pages.store g.M.MergeOperator.meant _ _ _ {A = Unit {0}} (Err _) (returns-in-Err-changes-clause-err g c)

pub returns-in-Err-changes-clause-leaves : goal.returns-in-Err-changes-clause-leaves
returns-in-Err-changes-clause-leaves g c = group_leaves g.P.Pages.store g.M.MergeOperator.meant _ _ c.args.batches.now {A = Unit {0}} (Err _) tt (returns-in-Err-changes-clause-err g c)

pub returns-clause-refuses : goal.returns-clause-refuses
returns-clause-refuses g c = group_refuses g.P.Pages.store g.M.MergeOperator.meant _ _ _ c.make_group-made.result (returns-clause-err g c)

pub returns-clause-leaves : goal.returns-clause-leaves
returns-clause-leaves g c = group_leaves g.P.Pages.store g.M.MergeOperator.meant _ _ c.args.batches.now c.make_group-made.result (returns-clause-ok g c) (returns-clause-err g c)

pub returns-clause-writes : goal.returns-clause-writes
returns-clause-writes g c = group_wrote g.P.Pages.store g.M.MergeOperator.meant c.args.self.now _ _ c.self.view_is c.self.invariant c.args.batches.now c.make_group-made.result (returns-clause-ok g c)
