use Rattle.std.proofs.Common.{◌≡◌, take}
use Rattle.machine_shared.proofs.grouping.copied_group.Given as goal

abbrev pub invariant-loop-batch : goal.invariant-loop-batch
invariant-loop-batch l = l.copy.items ≡ take l.batch-index l.group
