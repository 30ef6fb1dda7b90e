use Rattle.sled.proofs.Flying.{fewer_turns, going_first, going_more, going_ends}
use Rattle.sled.proofs.Walking.{going_walk, fewer_after, that_moved}
use Rattle.sled.proofs.db.Db.advance_on.Goals as goal

pub steps-init : goal.steps-init
steps-init g c = going_first g.P.Pages.store g.M.MergeOperator.meant c.args.self.now c.args.flight.now c.requires.known c.requires.tested

pub advance_tested-went-requires-clause-known : goal.advance_tested-went-requires-clause-known
advance_tested-went-requires-clause-known g c _ _ = (going_walk g.P.Pages.store g.M.MergeOperator.meant _ _ _ c.in_default.ensures.sound _ _ c.steps.invariant c.in_default.ensures.is).known

pub advance_tested-went-requires-clause-tested : goal.advance_tested-went-requires-clause-tested
advance_tested-went-requires-clause-tested g c _ _ = (going_walk g.P.Pages.store g.M.MergeOperator.meant _ _ _ c.in_default.ensures.sound _ _ c.steps.invariant c.in_default.ensures.is).tested

pub steps-smaller : goal.steps-smaller
steps-smaller g c = fewer_after g.P.Pages.store g.M.MergeOperator.meant c.args.self.now c.args.flight.now c.steps.self c.steps.flight c.walk_down.new.flight c.advance_tested-went.new.flight c.in_default.ensures.is (fewer_turns g.P.Pages.store g.M.MergeOperator.meant _ _ _ _ (that_moved g.P.Pages.store g.M.MergeOperator.meant _ _ _ _ _ c.in-Moved.is c.advance_tested-went.ensures.steps))

pub steps-preserved : goal.steps-preserved
steps-preserved g c = going_more g.P.Pages.store g.M.MergeOperator.meant _ _ _ _ _ _ (going_walk g.P.Pages.store g.M.MergeOperator.meant _ _ _ c.in_default.ensures.sound _ _ c.steps.invariant c.in_default.ensures.is) (that_moved g.P.Pages.store g.M.MergeOperator.meant _ _ _ _ _ c.in-Moved.is c.advance_tested-went.ensures.steps) c.audit.ensures.sound

pub returns-in-Some : goal.returns-in-Some
returns-in-Some g c = let w = c.in-Some.ensures in going_ends g.P.Pages.store g.M.MergeOperator.meant _ _ _ _ _ _ _ (going_walk g.P.Pages.store g.M.MergeOperator.meant _ _ _ w.sound _ _ c.steps.invariant w.is.1) w.is.2 w.is.3

pub returns-in_default-went : goal.returns-in_default-went
returns-in_default-went g c = going_ends g.P.Pages.store g.M.MergeOperator.meant _ _ _ _ _ _ _ (going_walk g.P.Pages.store g.M.MergeOperator.meant _ _ _ c.in_default.ensures.sound _ _ c.steps.invariant c.in_default.ensures.is) c.advance_tested-went.ensures.steps c.in_default-went.not-Moved
