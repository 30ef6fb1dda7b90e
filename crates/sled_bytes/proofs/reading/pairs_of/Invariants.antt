use Rattle.std.proofs.Common.{◌≡◌, ◌≤◌, ◌-◌, length, drop}
use Rattle.sled_bytes.specs.Reading.{pair_at, each_at}
use Rattle.sled_bytes.proofs.Entries.{with_front}
use Rattle.sled_bytes.proofs.reading.pairs_of.Given as goal

abbrev pub invariant-pairs : goal.invariant-pairs
invariant-pairs l =
    record {
      far : l.from ≤ l.at;
      place : l.at ≤ length l.bytes;
      read : with_front l.pairs.items (each_at pair_at (l.count - l.counter) (drop l.at l.bytes)) ≡ each_at pair_at l.count (drop l.from l.bytes);
    }
