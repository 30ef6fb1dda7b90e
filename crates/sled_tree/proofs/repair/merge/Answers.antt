use Rattle.sled_tree.proofs.Arriving.{merges}
use Rattle.sled_tree.proofs.repair.merge.Goals as goal

pub returns-clause-arrives : goal.returns-clause-arrives
returns-clause-arrives c = merges _ _ _ _ c.requires.not_merging c.requires.free c.requires.fits c.begin.ensures
