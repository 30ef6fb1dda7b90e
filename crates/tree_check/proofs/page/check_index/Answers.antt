use Rattle.std.proofs.Common.{◌≡◌, true, subst}
use Rattle.std.specs.List.{All}
use Rattle.std.specs.FinMap.{is_sorted}
use Rattle.std.specs.Cmp.Lexicographic.{slice_cmp}
use Rattle.std.specs.Ordering.{nat_cmp}
use Rattle.sled_nodes.specs.Node.{Within}
use Rattle.tree_check.proofs.Whole.{whole_of}
use Rattle.tree_check.proofs.page.check_index.Goals as goal

pub returns-clause-sorted : goal.returns-clause-sorted
returns-clause-sorted c = subst (λ es. is_sorted (slice_cmp nat_cmp) es ≡ true) (whole_of c.args.index.now c.rests.result.now c.prefix.result.now c.prefix.ensures c.rests.ensures) (c.are_sound.ensures.sorted c.if-not-are_sound.false)

pub returns-clause-within : goal.returns-clause-within
returns-clause-within c = subst (λ es. All (λ e. Within c.args.node.now.lo c.args.node.now.hi e.0) es) (whole_of c.args.index.now c.rests.result.now c.prefix.result.now c.prefix.ensures c.rests.ensures) (c.are_sound.ensures.within c.if-not-are_sound.false)
