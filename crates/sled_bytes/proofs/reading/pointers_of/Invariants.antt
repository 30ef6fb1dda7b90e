use Rattle.std.proofs.Common.{◌≡◌, ◌≤◌, ◌-◌, length, drop}
use Rattle.sled_bytes.specs.Reading.{pointer_at, each_at}
use Rattle.sled_bytes.proofs.Entries.{with_front}
use Rattle.sled_bytes.proofs.reading.pointers_of.Given as goal

abbrev pub invariant-pointers : goal.invariant-pointers
invariant-pointers l =
    record {
      far : l.from ≤ l.at;
      place : l.at ≤ length l.bytes;
      read : with_front l.pointers.items (each_at pointer_at (l.count - l.counter) (drop l.at l.bytes)) ≡ each_at pointer_at l.count (drop l.from l.bytes);
    }
