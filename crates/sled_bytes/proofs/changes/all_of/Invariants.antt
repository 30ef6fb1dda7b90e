use Rattle.std.proofs.Common.{◌≡◌, ◌≤◌, ◌-◌, length, drop}
use Rattle.sled_bytes.specs.Reading.{changes_from, changes_of}
use Rattle.sled_bytes.proofs.Several.{behind_front}
use Rattle.sled_bytes.proofs.changes.all_of.Given as goal

abbrev pub invariant-changes : goal.invariant-changes
invariant-changes l =
    record {
      place : l.at ≤ length l.bytes;
      few : length l.changes.items ≤ l.at;
      read : behind_front l.changes.items (changes_from (drop l.at l.bytes) (length l.bytes - length l.changes.items)) ≡ changes_of l.bytes;
    }

abbrev pub decreases-changes : goal.decreases-changes
decreases-changes l = length l.bytes - l.at
