use Rattle.std.proofs.Common.{◌≤◌, ◌-◌, length}
use Rattle.sled_files.proofs.Replaying.{ReadsTo}
use Rattle.sled_files.proofs.replay.Replay.read.Given as goal

abbrev pub invariant-changes : goal.invariant-changes
invariant-changes l = record {
  place : l.at ≤ length l.payload;
  reads : ReadsTo l.payload l.at l.fn.self l.self;
}

abbrev pub decreases-changes : goal.decreases-changes
decreases-changes l = length l.payload - l.at
