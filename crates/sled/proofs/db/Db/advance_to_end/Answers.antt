use Rattle.std.proofs.Common.{zero}
use Rattle.sled.specs.Flights.{Ends}
use Rattle.sled.proofs.Flying.{flies_untested, refused_is_end, to_end}
use Rattle.sled.proofs.db.Db.advance_to_end.Goals as goal

pub returns-in-Err : goal.returns-in-Err
returns-in-Err g c = to_end g.P.Pages.store g.M.MergeOperator.meant zero _ _ _ _ _ (Ends (flies_untested g.P.Pages.store g.M.MergeOperator.meant _ _ _ _ c.in-Err.ensures.err) refused_is_end)
