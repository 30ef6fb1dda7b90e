use Rattle.std.proofs.Common.{ap, refl}
use Rattle.sled_pages.specs.Table.{slot_given}
use Rattle.sled_pages.proofs.Kept.{empty_is}
use Rattle.sled_pages.proofs.memory.MemPages.new.Goals as goal

pub invariant_of-result : goal.invariant_of-result
invariant_of-result c = record {
  kept = rw c.new-3.ensures.items (record { placed = refl; sealed = refl });
  ascends = rw c.new-2.ensures.items refl;
  below = record { here = λ p. ap (λ s. slot_given 0 (s p)) c.new.ensures.slots; in_log = rw c.new-3.ensures.items refl };
}

pub returns : goal.returns
returns c = empty_is _ _ _ _ _ c.new.ensures.slots c.new-2.ensures.items c.new-3.ensures.items c.new-5.ensures.items c.new.ensures.given
