use Rattle.std.proofs.Common.{◌≡◌, ◌≤◌, take, vec_len, vec_capacity, length}
use Rattle.machine_alone.specs.Run.{MachineRun, MachineSteps}
use Rattle.machine_alone.proofs.machine.Machine.run.Given as goal

-- so many steps were done, and there is room for the outcomes of the others
abbrev pub invariant-loop-step : goal.invariant-loop-step
invariant-loop-step g l =
    MachineRun g.P.Pages.store g.P.Pages.flush_number g.M.MergeOperator.meant l.fn.self (take l.step-index l.steps) l.outcomes.items l.self
    × MachineSteps g.P.Pages.store g.P.Pages.flush_number g.M.MergeOperator.meant l.fn.self (take l.step-index l.steps) l.outcomes.items l.self
    × (vec_len l.outcomes ≡ l.step-index) × (length l.steps ≤ vec_capacity l.outcomes)
