use Rattle.sled_nodes.specs.Node.{after_link}
use Rattle.example_stores.proofs.Runs.{links_told}
use Rattle.example_stores.proofs.store.two_links.Goals as goal

pub returns-in_ok-link-in-Ok-Ok : goal.returns-in_ok-link-in-Ok-Ok
returns-in_ok-link-in-Ok-Ok g c = rw c.is_ok.ensures.value (links_told (after_link c.args.first) (after_link c.args.second) _ _ _ _ _ _ _ _ c.in-Ok-Ok.field-0-is c.in-Ok-Ok.ensures.ok c.in_ok-link-in-Ok-Ok.ensures.ok)
