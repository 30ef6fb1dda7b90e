use Rattle.std.proofs.Common.{[], ◌∷◌}
use Rattle.ordered_keys.specs.declared.part.Part.TheVariants.{Number, Text}
use Rattle.example_databases.proofs.typed.ReadingSpelled.read.Goals as goal

pub returns-in_default-clause-none : goal.returns-in_default-clause-none
returns-in_default-clause-none c = λ x has. (rw c.in_default.is at c.in_ok-parts.ensures.none) (Text x.station ∷ Number x.hour ∷ []) has
