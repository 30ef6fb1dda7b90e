use Rattle.example_seats.proofs.Reserving.{reserved, unchanged}
use Rattle.example_seats.proofs.reserve.Goals as goal

pub returns-in-Ok-clause-ok : goal.returns-in-Ok-clause-ok
returns-in-Ok-clause-ok g c = rw c.is_ok.ensures.value (reserved g.P.Pages.store g.M.MergeOperator.meant _ _ _ _ _ _ c.in-Ok.ensures.changes)

pub returns-in-Err-clause-err : goal.returns-in-Err-clause-err
returns-in-Err-clause-err g c = unchanged g.P.Pages.store g.M.MergeOperator.meant _ _ c.args.seats.now c.args.seat.now c.args.guest.now c.in-Err.ensures.refuses.is
