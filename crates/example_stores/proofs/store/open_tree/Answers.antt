use Rattle.std.proofs.Common.{Some, None, ◌∙◌}
use Rattle.example_stores.proofs.Runs.{opened_group, opened, not_opened}
use Rattle.example_stores.proofs.store.open_tree.Goals as goal

pub flush-requires : goal.flush-requires
flush-requires g c = opened_group c.args.node c.in_ok-pid.pid _ c.args.name.now None (Some c.in_ok-pid.pid) _ _ _ _ c.in_ok-pid.ensures.ok c.in_ok-swapped.ensures.ok ∙ c.requires

pub returns-in-Ok-clause-opened : goal.returns-in-Ok-clause-opened
returns-in-Ok-clause-opened g c = opened c.args.node c.in_ok-pid.pid _ c.args.name.now c.in-Ok.field-0 _ _ _ _ _ c.in-Ok.is c.law_given.ensures c.in_ok-pid.ensures.ok c.in_ok-swapped.ensures.ok c.in_ok-flush.ensures.ok

pub returns-in-Err-clause-opened : goal.returns-in-Err-clause-opened
returns-in-Err-clause-opened g c = not_opened c.args.node c.in_ok-pid.pid _ c.args.name.now c.in-Err.field-0 _ _ _ _ _ c.in-Err.is c.in_ok-pid.ensures.ok c.in_ok-swapped.ensures.ok
