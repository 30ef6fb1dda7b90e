use Rattle.edit_calls.proofs.Refusing.{reads_closed}
use Rattle.edit_calls.proofs.closed.get_closed.Goals as goal

pub returns : goal.returns
returns g c = reads_closed g.P.Pages.store g.M.MergeOperator.meant _ _ c.requires _ _ _ c.get.ensures.ok c.get.ensures.err
