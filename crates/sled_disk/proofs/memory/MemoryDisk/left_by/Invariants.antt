use Rattle.std.proofs.Common.{◌≡◌, ◌+◌, drop}
use Rattle.sled_disk.specs.Choices.{left_of}
use Rattle.sled_disk.specs.Chosen.{left_by}
use Rattle.sled_disk.proofs.memory.MemoryDisk.left_by.Given as goal

-- what will become of the rest is what becomes of all
abbrev pub invariant-synced : goal.invariant-synced
invariant-synced l =
    left_by (drop l.call-index l.self.calls.items) (left_of l.choices) l.left.items ≡ left_by l.self.calls.items (left_of l.choices) l.self.first.items

abbrev pub invariant-others : goal.invariant-others
invariant-others l =
    left_by (drop (l.synced + l.call-index) l.self.calls.items) (left_of l.choices) l.left.items ≡ left_by l.self.calls.items (left_of l.fn.choices) l.self.first.items
