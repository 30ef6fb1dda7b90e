use Rattle.std.proofs.Common.{◌≡◌, ◌+◌, ◌*◌, length, None}
use Rattle.example_shared.specs.Raising.{Raises}
use Rattle.example_shared.proofs.raising.raise.Given as goal

abbrev pub invariant-loop : goal.invariant-loop
invariant-loop g l =
    Raises l.tree l.key None l.fn.handle.made l.handle.made
    × (l.handle.number ≡ l.fn.handle.number)
    × (length l.handle.made ≡ length l.fn.handle.made + 2 * l.counter)
