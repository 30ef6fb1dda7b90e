use Rattle.std.proofs.Common.{◌≡◌}
use Rattle.machine_shared.proofs.handle.Handle.steps.Given as goal

abbrev pub invariant-loop : goal.invariant-loop
invariant-loop g l = (l.self.made ≡ l.fn.self.made) × (l.self.number ≡ l.fn.self.number) × (l.left ≡ l.fn.jobs)
