use Rattle.tree_pages.proofs.Dropping.{along_first, along_more, along_all}
use Rattle.tree_pages.proofs.drop.free_level.Goals as goal

pub loop-page-init : goal.loop-page-init
loop-page-init g c = along_first _ _

pub loop-page-preserved : goal.loop-page-preserved
loop-page-preserved g c = along_more _ _ _ _ _ _ _ c.loop-page.invariant c.in-Some.is c.free_page-cursor.ensures

pub returns-in_default : goal.returns-in_default
returns-in_default g c = along_all _ _ _ _ c.loop-page.invariant

pub returns : goal.returns
returns g c = along_all _ _ _ _ c.loop-page.invariant
