use Rattle.tree_pages.proofs.Dropping.{FreesAlong}
use Rattle.tree_pages.proofs.drop.free_level.Given as goal

abbrev pub invariant-loop-page : goal.invariant-loop-page
invariant-loop-page g l = FreesAlong l.fn.first l.cursor (g.P.Pages.store l.fn.pages) (g.P.Pages.store l.pages)
