use Rattle.std.proofs.Common.{◌≡◌, ◌++◌, take}
use Rattle.ordered_keys.specs.Keys.{spelled, HasShape}
use Rattle.ordered_keys.proofs.part.parts_of.Given as goal

abbrev pub invariant-kinds : goal.invariant-kinds
invariant-kinds l = HasShape (take l.kind-index l.shape) l.parts.items × (spelled l.parts.items ++ l.rest ≡ l.key)
