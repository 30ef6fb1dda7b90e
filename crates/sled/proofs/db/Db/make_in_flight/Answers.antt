use Rattle.std.proofs.Common.{ap, ◌∙◌}
use Rattle.sled_model.specs.State.{range_of}
use Rattle.sled_tree.specs.declared.flight.InFlight.{InFlight}
use Rattle.sled.proofs.Flying.{only_ends}
use Rattle.sled.proofs.Conducting.{point_decided, point_refused, point_short}
use Rattle.sled.proofs.db.Db.make_in_flight.Goals as goal

pub returns-in-Err-clause-err : goal.returns-in-Err-clause-err
returns-in-Err-clause-err g c = point_short g.P.Pages.store g.M.MergeOperator.meant _ _ _ _ c.requires.tested c.in-Err.ensures.err

pub unreachable-requires : goal.unreachable-requires
unreachable-requires g c = only_ends g.P.Pages.store g.M.MergeOperator.meant _ _ _ _ _ c.advance_on-went.ensures (ap (λ (f : InFlight). range_of f.job.call) c.new-flight.ensures ∙ c.requires.on_key) c.in_default.not-Decided c.in_default.not-Refused

pub returns-in-Decided-clause-ok : goal.returns-in-Decided-clause-ok
returns-in-Decided-clause-ok g c = point_decided g.P.Pages.store g.M.MergeOperator.meant _ _ _ _ _ _ _ c.new-flight.ensures c.in-Ok.ensures.ok _ _ c.in-Decided.is c.advance_on-went.ensures

pub returns-in-Refused-clause-err : goal.returns-in-Refused-clause-err
returns-in-Refused-clause-err g c = point_refused g.P.Pages.store g.M.MergeOperator.meant _ _ _ _ _ _ _ c.new-flight.ensures c.in-Ok.ensures.ok _ c.requires.on_key _ c.in-Refused.is c.advance_on-went.ensures
