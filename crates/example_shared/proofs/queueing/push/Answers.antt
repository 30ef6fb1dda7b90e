use Rattle.example_shared.proofs.Noting.{pushes}
use Rattle.example_shared.proofs.queueing.push.Goals as goal

pub returns-in-Decided-clause-ok : goal.returns-in-Decided-clause-ok
returns-in-Decided-clause-ok g c = pushes _ _ _ _ _ _ _ _ c.in_ok-id.ensures.ok c.to_be_bytes.ensures c.in-Decided.ensures.made
