use Rattle.std.proofs.Common.{ap, sym, ◌∙◌}
use Rattle.std.specs.FinMap.{find, is_sorted}
use Rattle.std.specs.Cmp.Lexicographic.{slice_cmp}
use Rattle.std.specs.Ordering.{nat_cmp}
use Rattle.sled_nodes.specs.Order.{key_cmp}
use Rattle.sled_pages.proofs.Kept.{roots_here}
use Rattle.sled_pages.proofs.memory.MemPagesPages.root.Goals as goal

pub returns : goal.returns
unfolding key_cmp
returns c =
    c.copied.ensures ∙ (c.value_at.ensures ∙ (ap (find (slice_cmp nat_cmp) c.args.name.now) c.as_slice.ensures.value ∙ sym (roots_here c.args.self.now c.args.name.now)))

pub value_at-requires : goal.value_at-requires
unfolding key_cmp
value_at-requires c = λ _. ap (is_sorted (slice_cmp nat_cmp)) c.as_slice.ensures.value ∙ c.args.self.now.ascends
