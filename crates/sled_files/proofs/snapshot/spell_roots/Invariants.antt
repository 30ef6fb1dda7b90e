use Rattle.std.proofs.Common.{length}
use Rattle.sled_pages.specs.Memory.{store_of}
use Rattle.sled_files.proofs.Snapping.{Roots}
use Rattle.sled_files.proofs.snapshot.spell_roots.Given as goal

abbrev pub invariant-loop-name : goal.invariant-loop-name
invariant-loop-name l = Roots (store_of l.pages) l.fn.out.items l.roots.items l.out.items

abbrev pub decreases-loop-name : goal.decreases-loop-name
decreases-loop-name l = length l.roots.items
