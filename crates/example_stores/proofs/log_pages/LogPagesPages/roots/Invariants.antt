use Rattle.std.proofs.Common.{◌≡◌, true, take}
use Rattle.std.specs.FinMap.Entries.{is_sorted}
use Rattle.sled_nodes.specs.Order.{Key, key_cmp}
use Rattle.sled_store.specs.Roots.{roots_of}
use Rattle.example_stores.specs.Log.{state_after}
use Rattle.example_stores.proofs.log_pages.LogPagesPages.roots.Given as goal

abbrev pub invariant-loop-action : goal.invariant-loop-action
invariant-loop-action l = record {
  ascends : is_sorted key_cmp l.roots.items ≡ true;
  is : (name : Key) → (state_after (take l.action-index l.action-items)).roots name ≡ roots_of l.roots.items name;
}
