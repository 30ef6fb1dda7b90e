use Rattle.std.proofs.Common.{◌≡◌}
use Rattle.sled_pages.specs.Slots.{slots_of, given_of}
use Rattle.sled_pages.proofs.memory.back.settle.Given as goal

abbrev pub invariant-loop-undo : goal.invariant-loop-undo
invariant-loop-undo l = record {
  slots : slots_of l.slots ≡ slots_of l.fn.slots;
  given : given_of l.slots ≡ given_of l.fn.slots;
}
