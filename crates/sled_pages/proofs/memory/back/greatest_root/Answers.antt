use Rattle.std.proofs.Common.{◌≤◌, ◌<◌, length, get_or, rules, arith}
use Rattle.sled_nodes.proofs.All.{le_more}
use Rattle.sled_pages.proofs.memory.back.greatest_root.Goals as goal

pub loop-root-preserved : goal.loop-root-preserved
loop-root-preserved c =
    let h : c.loop-root.root-index < length c.args.roots.now = omega arith in
    let a : c.loop-root.greatest ≤ c.max-greatest.result = search rules in
    let b : (get_or c.args.roots.now c.loop-root.root-index c.root-item.result).1 ≤ c.max-greatest.result = search rules in
    le_more c.args.roots.now c.loop-root.root-index c.loop-root.greatest c.max-greatest.result c.root-item.result h a b c.loop-root.invariant
