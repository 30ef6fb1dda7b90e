use Rattle.example_progress.proofs.Turning.{Turned}
use Rattle.example_progress.proofs.step_in_turn.Given as goal

-- so many steps went on
abbrev pub invariant-loop-turn : goal.invariant-loop-turn
invariant-loop-turn g l = Turned g.P.Pages.store g.P.Pages.flush_number g.M.MergeOperator.meant l.fn.machine l.turn l.machine
