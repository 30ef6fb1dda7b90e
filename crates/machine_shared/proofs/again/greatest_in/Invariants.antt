use Rattle.std.proofs.Common.{ℕ, ◌≤◌, All, take}
use Rattle.machine_shared.proofs.again.greatest_in.Given as goal

-- it is the greatest number so far
abbrev pub invariant-loop-entry : goal.invariant-loop-entry
invariant-loop-entry l = All (λ e. e.by ≤ l.greatest) (take l.entry-index l.history) × ((n : ℕ) → All (λ e. e.by ≤ n) (take l.entry-index l.history) → l.greatest ≤ n)
