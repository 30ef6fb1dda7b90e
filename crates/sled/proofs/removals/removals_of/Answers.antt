use Rattle.sled.proofs.Ranged.{collects_on}
use Rattle.sled.proofs.removals.removals_of.Goals as goal

pub loop-pair-preserved : goal.loop-pair-preserved
loop-pair-preserved g c = collects_on g.P.Pages.store _ _ _ _ _ _ _ _ c.requires.rises c.loop-pair.invariant c.in-Ok.is c.in-Some.ensures.steps c.as_ref.ensures c.in_default-removed.ensures.ok
