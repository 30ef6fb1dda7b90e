use Rattle.std.proofs.Common.{◌≡◌}
use Rattle.sled_pages.specs.Slots.{slots_of, places_of, given_of}
use Rattle.sled_pages.proofs.memory.back.join_all.Given as goal

abbrev pub invariant-loop-pid : goal.invariant-loop-pid
invariant-loop-pid l = record {
  slots : slots_of l.slots ≡ slots_of l.fn.slots;
  places : places_of l.slots ≡ places_of l.fn.slots;
  given : given_of l.slots ≡ given_of l.fn.slots;
}
