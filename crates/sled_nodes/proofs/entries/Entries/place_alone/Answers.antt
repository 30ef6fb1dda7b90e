use Rattle.std.specs.Cmp.Lexicographic.{slice_cmp}
use Rattle.std.specs.Ordering.{nat_cmp}
use Rattle.sled_nodes.proofs.Rising.{hit_out, gap_out}
use Rattle.sled_nodes.proofs.entries.Entries.place_alone.Goals as goal

pub returns-in-Ok : goal.returns-in-Ok
returns-in-Ok g c = rw (← c.self.view_is, ← c.as_slice.ensures.value) (hit_out (slice_cmp nat_cmp) c.args.key.now c.as_slice.result.now c.in-Ok.i c.in-Ok.ensures.ok)

pub returns-in-Err : goal.returns-in-Err
returns-in-Err g c = rw (← c.self.view_is, ← c.as_slice.ensures.value) (gap_out (slice_cmp nat_cmp) c.args.key.now c.as_slice.result.now c.in-Err.field-0 c.in-Err.ensures.err)
