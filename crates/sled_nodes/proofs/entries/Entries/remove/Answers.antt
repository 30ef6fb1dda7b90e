use Rattle.std.proofs.Common.{ap, ◌∙◌}
use Rattle.std.specs.FinMap.{is_sorted}
use Rattle.std.specs.Cmp.Lexicographic.{slice_cmp}
use Rattle.std.specs.Ordering.{nat_cmp}
use Rattle.sled_nodes.proofs.Rising.{rises_less}
use Rattle.sled_nodes.proofs.entries.Entries.remove.Goals as goal

pub invariant_of-self : goal.invariant_of-self
invariant_of-self g c = λ e. ap (is_sorted (slice_cmp nat_cmp)) c.remove-entry.ensures.items ∙ rises_less (slice_cmp nat_cmp) c.self.inside.list.items c.args.i (c.self.invariant e)
