use Rattle.std.proofs.Common.{◌≡◌, ℕ, take}
use Rattle.std.specs.Ordering.{nat_cmp}
use Rattle.std.specs.BTreeMap.{get, keys}
use Rattle.sled_queues.specs.theory.Lists.{changed_in, loses}
use Rattle.sled_queues.proofs.lists.take_back_all.Given as goal

abbrev pub invariant-loop-i : goal.invariant-loop-i
invariant-loop-i l = ((n : ℕ) → get nat_cmp l.queues n ≡ changed_in loses (take l.i l.numbers) (get nat_cmp l.fn.queues) n) × (keys l.queues ≡ keys l.fn.queues)
