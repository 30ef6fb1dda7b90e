use Rattle.std.proofs.Common.{refl, ◌-◌, ◌∙◌, length}
use Rattle.tree_check.proofs.Whole.{sorted_behind, all_within}
use Rattle.tree_check.proofs.page.are_sound.Goals as goal

pub returns-clause-sorted : goal.returns-clause-sorted
returns-clause-sorted g c = λ _. sorted_behind c.args.front.now c.args.rests.now ∙ c.ascends.ensures c.if-not-ascends.false

pub returns-clause-within : goal.returns-clause-within
returns-clause-within g c = λ e.
    all_within c.args.front.now c.args.lo.now c.args.hi.now c.args.rests.now (length c.args.rests.now - 1) c.index-rests-0.result c.index-rests-rests.result refl (c.ascends.ensures c.if-not-ascends.false)
    (c.is_from.ensures c.if-not-is_from.false) (c.is_below.ensures e)
