use Rattle.example_crashes.specs.theory.Raised.{HasRaised}
use Rattle.example_crashes.proofs.beside.raise_on.Given as goal

abbrev pub invariant-loop : goal.invariant-loop
invariant-loop g l = HasRaised l.tree l.key l.counter l.handle
