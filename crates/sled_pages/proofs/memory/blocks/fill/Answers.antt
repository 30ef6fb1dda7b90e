use Rattle.std.proofs.Common.{arith, ap, ◌∙◌, length, length-append}
use Rattle.sled_pages.proofs.Rows.{pushed_none}
use Rattle.sled_pages.proofs.memory.blocks.fill.Goals as goal

pub fill-preserved : goal.fill-preserved
fill-preserved c = record {
  same = λ i. pushed_none c.fill.block.items _ c.in_ok-push.ensures.items i ∙ c.fill.invariant.same i;
  longer = let k = c.fill.invariant.longer in let e = ap length c.in_ok-push.ensures.items in omega (arith, k, simp length-append at e);
}
