use Rattle.std.proofs.Common.{take, All}
use Rattle.machine_shared.specs.Gathered.{IsGiven}
use Rattle.machine_shared.proofs.compare.has_no_others.Given as goal

abbrev pub invariant-loop-e : goal.invariant-loop-e
invariant-loop-e l = All (λ e. IsGiven l.given e.by) (take l.e-index l.history)
