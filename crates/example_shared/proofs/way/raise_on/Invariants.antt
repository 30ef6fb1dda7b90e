use Rattle.example_shared.specs.Raising.{RaisesOn}
use Rattle.example_shared.proofs.way.raise_on.Given as goal

abbrev pub invariant-loop : goal.invariant-loop
invariant-loop g l = RaisesOn l.tree l.key l.fn.handle.made l.handle.made
