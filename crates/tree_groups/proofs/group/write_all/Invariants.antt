use Rattle.std.proofs.Common.{drop}
use Rattle.tree_groups.proofs.Grouping.{SoFar}
use Rattle.tree_groups.proofs.group.write_all.Given as goal

abbrev pub invariant-loop-write : goal.invariant-loop-write
invariant-loop-write g l = SoFar l.fn.writes (drop l.write-index l.fn.writes) (g.P.Pages.store l.fn.pages) (g.P.Pages.store l.pages)
