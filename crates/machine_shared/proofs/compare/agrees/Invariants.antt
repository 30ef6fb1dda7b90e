use Rattle.std.proofs.Common.{◌≡◌, take, ◌≤◌, length}
use Rattle.machine_shared.specs.History.{made_by}
use Rattle.machine_shared.specs.Made.{entry_values, made_values}
use Rattle.machine_shared.proofs.compare.agrees.Given as goal

abbrev pub invariant-loop-e : goal.invariant-loop-e
invariant-loop-e l = (l.k ≤ length l.made) × (made_values (take l.k l.made) ≡ made_by l.number (entry_values (take l.e-index l.history)))
