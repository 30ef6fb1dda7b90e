use Rattle.std.proofs.Common.{All, take}
use Rattle.example_shared.specs.Raising.{HasWritten}
use Rattle.example_shared.proofs.way.have_all_written.Given as goal

abbrev pub invariant-loop-handle : goal.invariant-loop-handle
invariant-loop-handle g l = All (HasWritten l.times) (take l.handle-index l.handles)
