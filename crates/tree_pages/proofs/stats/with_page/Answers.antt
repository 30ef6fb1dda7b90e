use Rattle.sled_store.specs.State.{nodes_of}
use Rattle.sled_store.specs.Store.{now}
use Rattle.tree_pages.proofs.Sizing.{page_weighed}
use Rattle.tree_pages.proofs.stats.with_page.Goals as goal

pub returns-in-Ok-clause-ok : goal.returns-in-Ok-clause-ok
returns-in-Ok-clause-ok g c = page_weighed (nodes_of (now (g.P.Pages.store c.args.pages.now)) c.args.pid) _ _ _ _ _ c.as_slice.ensures.value c.in_ok-pairs.ensures.ok c.in-Ok.ensures.ok
