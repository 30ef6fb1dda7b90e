use Rattle.tree_pages.specs.theory.Drops.{FreesFrom}
use Rattle.tree_pages.proofs.drop.free_levels.Given as goal

abbrev pub invariant-loop-level : goal.invariant-loop-level
invariant-loop-level g l = FreesFrom l.firsts l.level (g.P.Pages.store l.fn.pages) (g.P.Pages.store l.pages)
