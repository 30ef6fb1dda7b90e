use Rattle.std.proofs.Common.{refl, ◌∙◌, arith}
use Rattle.example_databases.proofs.Following.{catches_none, catches_both, catches_more, catches_last, catches_many, current_partly, lost_partly, only_queues}
use Rattle.example_databases.proofs.endings.Endings.catch_up.Goals as goal

pub loop-init : goal.loop-init
loop-init g c = (catches_none _ _, refl, refl)

pub returns-in-Ok-UpToDate-clause-ok : goal.returns-in-Ok-UpToDate-clause-ok
returns-in-Ok-UpToDate-clause-ok g c = catches_last _ _ _ _ _ _ _ _ c.loop.invariant.0 c.loop.invariant.1 c.loop-test.true _ _ c.in-Ok-UpToDate.field-0-is current_partly c.in-Ok-UpToDate.ensures.ok

pub returns-in-Ok-Lost-clause-ok : goal.returns-in-Ok-Lost-clause-ok
returns-in-Ok-Lost-clause-ok g c = catches_last _ _ _ _ _ _ _ _ c.loop.invariant.0 c.loop.invariant.1 c.loop-test.true _ _ c.in-Ok-Lost.field-0-is lost_partly c.in-Ok-Lost.ensures.ok

pub returns-in-Err-clause-err : goal.returns-in-Err-clause-err
returns-in-Err-clause-err g c = (c.in-Err.ensures.err.0, catches_both _ _ _ _ _ _ c.loop.invariant.0 c.in-Err.ensures.err.1)

pub loop-preserved : goal.loop-preserved
loop-preserved g c =
    let r = catches_more _ _ _ _ _ _ _ c.loop.invariant.0 c.loop.invariant.1 _ c.in-Ok-Partly.field-0-is c.in-Ok-Partly.ensures.ok in
    (r.0, r.1, only_queues c.args.db.now c.loop.db c.take_one.new.db c.loop.invariant.2 c.take_one.ensures.same)

pub returns-clause-ok : goal.returns-clause-ok
returns-clause-ok g c = catches_many _ _ _ _ _ c.loop.invariant.0 (c.loop.invariant.1 ∙ (let f = c.loop-test.false in let e = c.loop.auto.counter-end in omega arith))
