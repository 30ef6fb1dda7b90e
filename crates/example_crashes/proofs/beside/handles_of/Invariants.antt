use Rattle.std.proofs.Common.{◌≡◌, ◌+◌, [], All}
use Rattle.example_crashes.proofs.beside.handles_of.Given as goal

abbrev pub invariant-loop : goal.invariant-loop
invariant-loop g l = All (λ h. h.made ≡ []) l.handles.items × (l.shared.given ≡ l.fn.shared.given + l.counter) × (l.shared.before ≡ l.fn.shared.before) × (l.shared.opening ≡ l.fn.shared.opening)
