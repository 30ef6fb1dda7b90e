use Rattle.std.proofs.Common.{take, All}
use Rattle.machine_shared.specs.Gathered.{IsMadeIn}
use Rattle.machine_shared.specs.Made.{entry_values}
use Rattle.machine_shared.proofs.compare.all_agree.Given as goal

abbrev pub invariant-loop-h : goal.invariant-loop-h
invariant-loop-h g l = All (IsMadeIn (entry_values l.history)) (take l.h-index l.handles)
