use Rattle.std.proofs.Common.{◌≡◌, ℕ, take}
use Rattle.std.specs.Ordering.{nat_cmp}
use Rattle.std.specs.BTreeMap.{get}
use Rattle.sled_queues.specs.Queues.{committed_in}
use Rattle.sled_queues.specs.theory.Lists.{changed_in}
use Rattle.sled_queues.proofs.lists.commit_all.Given as goal

abbrev pub invariant-loop-i : goal.invariant-loop-i
invariant-loop-i l = (n : ℕ) → get nat_cmp l.queues n ≡ changed_in committed_in (take l.i l.numbers) (get nat_cmp l.fn.queues) n
