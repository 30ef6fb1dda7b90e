use Rattle.sled_nodes.proofs.Basics.{err_weaker}
use Rattle.machine_shared.proofs.Fetching.{swap_refused}
use Rattle.machine_shared.proofs.fetches.swap_now.Goals as goal

pub returns-clause-cause : goal.returns-clause-cause
returns-clause-cause g c = err_weaker _ _ (λ e r. swap_refused g.P.Pages.store g.M.MergeOperator.meant _ _ _ _ _ e _ r) c.update_and_fetch.result c.update_and_fetch.ensures.err
