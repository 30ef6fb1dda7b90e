use Rattle.std.proofs.Common.{◌≡◌, ℕ, true, vec_len}
use Rattle.std.specs.FinMap.{is_sorted}
use Rattle.sled_nodes.specs.Order.{key_cmp}
use Rattle.sled_pages.specs.Slots.{slots_of, places_of, given_of}
use Rattle.sled_store.specs.Roots.{roots_of}
use Rattle.sled_pages.specs.Table.{IsKept, AreBelow}
use Rattle.sled_pages.specs.theory.Table.{table, TakesBack}
use Rattle.sled_pages.proofs.memory.back.take_all_back.Given as goal

abbrev pub invariant-loop-log : goal.invariant-loop-log
invariant-loop-log l = record {
  kept : IsKept (places_of l.slots) (table (slots_of l.slots) (roots_of l.roots.items) l.in_group) l.log.items;
  places : places_of l.slots ≡ places_of l.fn.slots;
  given : given_of l.slots ≡ given_of l.fn.slots;
  ascends : is_sorted key_cmp l.roots.items ≡ true;
  below : (next : ℕ) → AreBelow next (slots_of l.fn.slots) l.fn.log.items → AreBelow next (slots_of l.slots) l.log.items;
  so_far : TakesBack l.keep (table (slots_of l.fn.slots) (roots_of l.fn.roots.items) l.fn.in_group) l.fn.log.items (table (slots_of l.slots) (roots_of l.roots.items) l.in_group) l.log.items;
}

abbrev pub decreases-loop-log : goal.decreases-loop-log
decreases-loop-log l = vec_len l.log
