use Rattle.machine_shared.specs.Gathered.{EachOnceBehind}
use Rattle.machine_shared.proofs.compare.are_all.Given as goal

abbrev pub invariant-loop-k : goal.invariant-loop-k
invariant-loop-k g l = EachOnceBehind l.before l.k l.handles
