use Rattle.std.proofs.Common.{sym}
use Rattle.std.specs.Cmp.Lexicographic.{slice_cmp}
use Rattle.std.specs.Ordering.{nat_cmp}
use Rattle.sled_nodes.proofs.Rising.{hit_found, gap_found}
use Rattle.sled_nodes.proofs.pairs.value_in.Goals as goal

pub returns-in-Ok : goal.returns-in-Ok
returns-in-Ok g c = sym (hit_found (slice_cmp nat_cmp) c.args.key.now c.args.pairs.now c.in-Ok.i c.index-pairs-i.result c.in-Ok.ensures.ok)

pub returns-in-Err : goal.returns-in-Err
returns-in-Err g c = sym (gap_found (slice_cmp nat_cmp) c.args.key.now c.args.pairs.now c.in-Err.field-0 c.in-Err.ensures.err)
