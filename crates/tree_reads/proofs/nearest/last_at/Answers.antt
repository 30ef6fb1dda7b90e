use Rattle.std.proofs.Common.{sym, ◌∙◌}
use Rattle.tree_reads.proofs.Backing.{back_first, back_below}
use Rattle.tree_reads.proofs.nearest.last_at.Goals as goal

pub returns-then-not-is_up_to-clause-ok : goal.returns-then-not-is_up_to-clause-ok
returns-then-not-is_up_to-clause-ok g c = back_below _ _ _ (sym c.is_up_to.ensures ∙ c.if-not-is_up_to.true)

pub last_along-found-requires : goal.last_along-found-requires
last_along-found-requires g c = back_first _ _ _ _ _ c.law_given.ensures c.in-Ok.ensures.ok
