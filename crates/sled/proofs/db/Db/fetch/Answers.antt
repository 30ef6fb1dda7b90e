use Rattle.sled.proofs.Fetching.{unread, unmade, unowned, unswapped, updates, fetch_refuses}
use Rattle.sled.proofs.Promising.{sets}
use Rattle.sled.proofs.db.Db.fetch.Goals as goal

pub returns-in-Err-clause-err : goal.returns-in-Err-clause-err
returns-in-Err-clause-err g c = unread g.P.Pages.store g.M.MergeOperator.meant g.F.FnMut _ _ _ _ _ c.in-Err.ensures.err c.in-Err.ensures.gives_up

pub returns-in-Err-ask-clause-err : goal.returns-in-Err-ask-clause-err
returns-in-Err-ask-clause-err g c = unmade g.P.Pages.store g.M.MergeOperator.meant g.F.FnMut _ _ _ _ _ c.in-Ok.ensures.ok _ _ c.in-Err-ask.is c.ask.ensures

pub returns-in-Err-made-clause-err : goal.returns-in-Err-made-clause-err
returns-in-Err-made-clause-err g c = unowned g.P.Pages.store g.M.MergeOperator.meant g.F.FnMut _ _ _ _ _ c.in-Ok.ensures.ok _ _ c.in-Ok-ask.is c.ask.ensures _ c.in-Err-made.ensures.err

pub returns-in-Ok-swap-clause-changes : goal.returns-in-Ok-swap-clause-changes
returns-in-Ok-swap-clause-changes g c = sets g.P.Pages.store g.M.MergeOperator.meant _ _ _ _ _ _ c.in-Ok-swap.ensures.ok

pub returns-in-Ok-swap-clause-updates : goal.returns-in-Ok-swap-clause-updates
returns-in-Ok-swap-clause-updates g c = updates g.P.Pages.store g.M.MergeOperator.meant g.F.FnMut _ _ _ _ _ c.in-Ok.ensures.ok _ _ c.in-Ok-ask.is c.ask.ensures _ c.in-Ok-made.ensures.ok _ c.in-Ok-swap.ensures.ok

pub returns-in-Ok-swap-clause-leaves : goal.returns-in-Ok-swap-clause-leaves
returns-in-Ok-swap-clause-leaves g c = c.in-Ok-swap.ensures.ok.conducts

pub returns-in-Err-swap-clause-err : goal.returns-in-Err-swap-clause-err
returns-in-Err-swap-clause-err g c = unswapped g.P.Pages.store g.M.MergeOperator.meant g.F.FnMut _ _ _ _ _ c.in-Ok.ensures.ok _ _ c.in-Ok-ask.is c.ask.ensures _ c.in-Ok-made.ensures.ok _ _ c.in-Err-swap.ensures.err

pub returns-in-Err-clause-refuses : goal.returns-in-Err-clause-refuses
returns-in-Err-clause-refuses g c = fetch_refuses g.P.Pages.store g.M.MergeOperator.meant g.F.FnMut _ _ _ _ _ _ (returns-in-Err-clause-err g c)

pub returns-in-Err-clause-leaves : goal.returns-in-Err-clause-leaves
returns-in-Err-clause-leaves g c = (returns-in-Err-clause-err g c).conducts

pub returns-in-Err-ask-clause-refuses : goal.returns-in-Err-ask-clause-refuses
returns-in-Err-ask-clause-refuses g c = fetch_refuses g.P.Pages.store g.M.MergeOperator.meant g.F.FnMut _ _ _ _ _ _ (returns-in-Err-ask-clause-err g c)

pub returns-in-Err-ask-clause-leaves : goal.returns-in-Err-ask-clause-leaves
returns-in-Err-ask-clause-leaves g c = (returns-in-Err-ask-clause-err g c).conducts

pub returns-in-Err-made-clause-refuses : goal.returns-in-Err-made-clause-refuses
returns-in-Err-made-clause-refuses g c = fetch_refuses g.P.Pages.store g.M.MergeOperator.meant g.F.FnMut _ _ _ _ _ _ (returns-in-Err-made-clause-err g c)

pub returns-in-Err-made-clause-leaves : goal.returns-in-Err-made-clause-leaves
returns-in-Err-made-clause-leaves g c = (returns-in-Err-made-clause-err g c).conducts

pub returns-in-Err-swap-clause-refuses : goal.returns-in-Err-swap-clause-refuses
returns-in-Err-swap-clause-refuses g c = fetch_refuses g.P.Pages.store g.M.MergeOperator.meant g.F.FnMut _ _ _ _ _ _ (returns-in-Err-swap-clause-err g c)

pub returns-in-Err-swap-clause-leaves : goal.returns-in-Err-swap-clause-leaves
returns-in-Err-swap-clause-leaves g c = (returns-in-Err-swap-clause-err g c).conducts
