use Rattle.std.specs.Cmp.Lexicographic.{slice_cmp, nat_list_cmp_total}
use Rattle.std.specs.Ordering.{nat_cmp}
use Rattle.sled_nodes.proofs.Rising.{rises_on}
use Rattle.sled_nodes.proofs.entries.Entries.put.Goals as goal

pub invariant_of-self : goal.invariant_of-self
invariant_of-self g c = λ e. rises_on (slice_cmp nat_cmp) nat_list_cmp_total c.put_pair.result c.args.key c.args.value c.self.inside.list.items c.put_pair.new.pairs.items (c.self.invariant e) c.put_pair.ensures.ok c.put_pair.ensures.err
