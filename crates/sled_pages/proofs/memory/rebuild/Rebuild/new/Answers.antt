use Rattle.std.proofs.Common.{ap}
use Rattle.std.specs.FinMap.{is_sorted}
use Rattle.sled_nodes.specs.Order.{key_cmp}
use Rattle.sled_pages.specs.Table.{slot_given}
use Rattle.sled_pages.proofs.memory.rebuild.Rebuild.new.Goals as goal

pub invariant_of-result : goal.invariant_of-result
invariant_of-result c = record {
  building = record {
    unused = record { none = λ i h. ap (λ f. f i) c.new.ensures.slots };
    below = λ i. ap (λ f. slot_given 0 (f i)) c.new.ensures.slots;
    ascends = ap (is_sorted key_cmp) c.new-2.ensures.items;
  };
}
