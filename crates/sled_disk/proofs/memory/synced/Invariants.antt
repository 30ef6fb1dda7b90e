use Rattle.std.proofs.Common.{◌≡◌, ◌≤◌, length, drop, false}
use Rattle.std.specs.List.{list_any}
use Rattle.sled_disk.specs.Chosen.{is_sync}
use Rattle.sled_disk.proofs.memory.synced.Given as goal

abbrev pub invariant-loop-count : goal.invariant-loop-count
invariant-loop-count l = record { within : l.count ≤ length l.calls; none : list_any is_sync (drop l.count l.calls) ≡ false }

abbrev pub decreases-loop-count : goal.decreases-loop-count
decreases-loop-count l = l.count
