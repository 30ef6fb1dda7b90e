use Rattle.std.proofs.Common.{refl, arith}
use Rattle.tree_check.proofs.Sound.{leaf_sound, index_sound}
use Rattle.tree_check.proofs.page.check_content.Goals as goal

pub returns-in_default-clause-sound : goal.returns-in_default-clause-sound
returns-in_default-clause-sound c = leaf_sound _ _ _ _ (omega (arith, c.if-height-ne0.false)) c.in-Leaf.is refl c.in_default.ensures.sorted c.in_default.ensures.within

pub returns-else-height-eq0-clause-sound : goal.returns-else-height-eq0-clause-sound
returns-else-height-eq0-clause-sound c = index_sound _ _ _ _ c.if-height-eq0.false c.in-Index.is refl c.in_default-check_index.ensures.sorted c.in_default-check_index.ensures.within c.in_default-check_index.ensures.first
