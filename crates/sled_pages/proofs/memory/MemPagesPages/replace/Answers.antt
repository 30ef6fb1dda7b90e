use Rattle.sled_pages.proofs.Answered.{replaces}
use Rattle.sled_pages.proofs.memory.MemPagesPages.replace.Goals as goal

pub returns-clause-ok : goal.returns-clause-ok
returns-clause-ok c = rw (← c.in-Ok.ensures.ok) (replaces c.args.pid c.args.version _ _ _ _ c.in-Ok.node c.in_default.ensures.same c.in_default-tested.ensures.ok c.commit_node.ensures.is)
