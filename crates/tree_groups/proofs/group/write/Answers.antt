use Rattle.std.proofs.Common.{refl, arith}
use Rattle.tree_groups.proofs.Writing.{on_way_first, on_way_more, on_way_decided, on_way_refused, on_way_ends, limit_is}
use Rattle.tree_groups.proofs.group.write.Goals as goal

pub loop-flight-init : goal.loop-flight-init
loop-flight-init g c = on_way_first _ _ c.requires.fresh c.requires.on_key

pub advance-went-requires-clause-way : goal.advance-went-requires-clause-way
advance-went-requires-clause-way g c κs within = c.loop-flight.invariant.way

pub loop-flight-preserved : goal.loop-flight-preserved
loop-flight-preserved g c = on_way_more _ _ _ _ c.loop-flight.invariant _ (omega (arith, limit_is, c.loop-flight-test.true)) c.requires.on_key _ c.in-Moved.ensures.advances c.in-Moved.ensures.passes c.in-Moved.ensures.follows

pub returns-in-Decided-clause-ok : goal.returns-in-Decided-clause-ok
returns-in-Decided-clause-ok g c = on_way_decided _ _ _ _ c.loop-flight.invariant _ (omega (arith, limit_is, c.loop-flight-test.true)) c.requires.plain _ _ c.in-Decided.ensures.advances c.in-Decided.ensures.follows

pub returns-in-Refused-clause-err : goal.returns-in-Refused-clause-err
returns-in-Refused-clause-err g c = on_way_refused _ _ _ _ c.loop-flight.invariant _ (omega (arith, limit_is, c.loop-flight-test.true)) _ _ c.in-Refused.ensures.advances c.in-Refused.ensures.follows

pub returns-clause-err : goal.returns-clause-err
returns-clause-err g c = on_way_ends _ _ _ _ c.loop-flight.invariant _ refl (omega (arith, limit_is))
