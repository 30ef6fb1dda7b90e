use Rattle.std.specs.Cmp.Lexicographic.{slice_cmp, nat_list_cmp_total}
use Rattle.std.specs.Ordering.{nat_cmp}
use Rattle.sled_nodes.proofs.Rising.{hit_to, gap_to}
use Rattle.sled_nodes.proofs.ascending.count_to.Goals as goal

pub returns-in-Ok-clause-parted : goal.returns-in-Ok-clause-parted
returns-in-Ok-clause-parted g c = hit_to (slice_cmp nat_cmp) nat_list_cmp_total c.args.key.now c.args.pairs.now c.in-Ok.i c.in-Ok.ensures.ok

pub returns-in-Err-clause-parted : goal.returns-in-Err-clause-parted
returns-in-Err-clause-parted g c = gap_to (slice_cmp nat_cmp) nat_list_cmp_total c.args.key.now c.args.pairs.now c.in-Err.i c.in-Err.ensures.err
