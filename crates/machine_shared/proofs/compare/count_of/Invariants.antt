use Rattle.std.proofs.Common.{◌≡◌, take}
use Rattle.machine_shared.specs.Gathered.{times}
use Rattle.machine_shared.proofs.compare.count_of.Given as goal

abbrev pub invariant-loop-h : goal.invariant-loop-h
invariant-loop-h g l = l.count ≡ times (take l.h-index l.handles) l.number
