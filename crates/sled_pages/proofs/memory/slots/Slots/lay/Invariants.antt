use Rattle.sled_pages.specs.theory.Held.{Holds}
use Rattle.sled_pages.proofs.memory.slots.Slots.lay.Given as goal

abbrev pub invariant-loop-pid : goal.invariant-loop-pid
invariant-loop-pid l = Holds l.yielded l.foreign l.least l.last l.next
