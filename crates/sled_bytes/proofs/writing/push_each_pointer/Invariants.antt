use Rattle.std.proofs.Common.{◌≡◌, ◌++◌, take}
use Rattle.std.specs.List.{flat_map, All}
use Rattle.sled_bytes.specs.Spelling.{pointer, FitsPointer}
use Rattle.sled_bytes.proofs.writing.push_each_pointer.Given as goal

abbrev pub invariant-pointers : goal.invariant-pointers
invariant-pointers l = record { written : l.out.items ≡ l.fn.out.items ++ flat_map pointer (take l.entry-index l.pointers); fits : All FitsPointer (take l.entry-index l.pointers) }
