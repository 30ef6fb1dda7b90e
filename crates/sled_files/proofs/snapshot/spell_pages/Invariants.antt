use Rattle.std.proofs.Common.{length}
use Rattle.sled_store.specs.Store.{now}
use Rattle.sled_pages.specs.Memory.{store_of}
use Rattle.sled_files.specs.theory.Snapshot.{Makes, pages_below, GivesPages}
use Rattle.sled_files.proofs.snapshot.spell_pages.Given as goal

abbrev pub invariant-loop-number : goal.invariant-loop-number
invariant-loop-number l = Makes (store_of l.pages) l.out.items (pages_below (now (store_of l.pages)) l.number) × GivesPages (pages_below (now (store_of l.pages)) l.number).state (length l.out.items)
