use Rattle.sled_pages.proofs.Laying.{root_more}
use Rattle.sled_pages.proofs.memory.back.sorted_roots.Goals as goal

pub loop-name-preserved : goal.loop-name-preserved
loop-name-preserved c = record {
  ascends = c.in_ok-set_root.ensures.ascends;
  rooted = root_more c.loop-name.yielded _ _ _ _ c.in_ok-set_root.ensures.ok c.loop-name.invariant.rooted;
}
