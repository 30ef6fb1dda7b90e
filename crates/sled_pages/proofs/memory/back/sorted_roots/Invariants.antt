use Rattle.std.proofs.Common.{◌≡◌, true}
use Rattle.std.specs.FinMap.{is_sorted}
use Rattle.sled_nodes.specs.Order.{Key, key_cmp}
use Rattle.sled_store.specs.Roots.{roots_of}
use Rattle.sled_nodes.specs.Image.{root_in}
use Rattle.sled_pages.proofs.memory.back.sorted_roots.Given as goal

abbrev pub invariant-loop-name : goal.invariant-loop-name
invariant-loop-name l = record {
  ascends : is_sorted key_cmp l.roots.items ≡ true;
  rooted : (name : Key) → roots_of l.roots.items name ≡ root_in l.yielded name;
}
