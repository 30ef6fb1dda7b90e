use Rattle.example_owned.proofs.Owning.{order_all}
use Rattle.example_owned.proofs.owned.write.Goals as goal

pub returns : goal.returns
returns g c = order_all g.P.Pages.store g.P.Pages.flush_number g.M.MergeOperator.meant _ _ _ _ _ _ c.law_joined.ensures _ _ _ _ _ _ c.put-insert.ensures c.put_both-both.ensures c.settle-flush.ensures c.put-later.ensures
