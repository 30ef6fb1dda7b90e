use Rattle.std.proofs.Common.{refl}
use Rattle.std.proofs.lemmas.List.{drop_all}
use Rattle.tree_groups.proofs.Grouping.{so_far_first, so_far_more, so_far_refused, so_far_all, left_from}
use Rattle.tree_groups.proofs.group.write_all.Goals as goal

pub loop-write-init : goal.loop-write-init
loop-write-init g c = so_far_first _ _ _ refl

pub loop-write-preserved : goal.loop-write-preserved
loop-write-preserved g c = so_far_more _ _ _ _ _ _ _ (left_from c.args.writes.now c.loop-write.write-index _ c.loop-write-test.true c.write-item.is) c.loop-write.invariant c.in_default.ensures.ok

pub returns-in-Err-clause-err : goal.returns-in-Err-clause-err
returns-in-Err-clause-err g c = so_far_refused _ _ _ _ _ _ _ _ (left_from c.args.writes.now c.loop-write.write-index _ c.loop-write-test.true c.write-item.is) c.loop-write.invariant c.in-Err.ensures.err

pub returns-clause-ok : goal.returns-clause-ok
returns-clause-ok g c = so_far_all _ _ _ _ (drop_all _ _ c.loop-write-test.false) c.loop-write.invariant
