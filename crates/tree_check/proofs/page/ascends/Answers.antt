use Rattle.std.proofs.Common.{arith}
use Rattle.std.specs.Cmp.Lexicographic.{slice_cmp, nat_list_cmp_total}
use Rattle.std.specs.Ordering.{nat_cmp}
use Rattle.sled_nodes.proofs.Rising.{rises_from}
use Rattle.tree_check.proofs.page.ascends.Goals as goal

pub returns : goal.returns
returns g c = λ _. rises_from (slice_cmp nat_cmp) nat_list_cmp_total c.args.entries.now c.loop-i.i (omega arith) c.loop-i.invariant
