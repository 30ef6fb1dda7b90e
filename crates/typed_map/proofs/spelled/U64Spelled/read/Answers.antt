use Rattle.std.proofs.Common.{[], ◌∷◌}
use Rattle.ordered_keys.specs.declared.part.Part.TheVariants.{Number}
use Rattle.typed_map.proofs.spelled.U64Spelled.read.Goals as goal

pub returns-in_default-clause-none : goal.returns-in_default-clause-none
returns-in_default-clause-none c = λ x has. (rw c.in_default.is at c.in_ok-parts.ensures.none) (Number x ∷ []) has
