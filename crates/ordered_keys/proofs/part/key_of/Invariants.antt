use Rattle.std.proofs.Common.{◌≡◌, take}
use Rattle.ordered_keys.specs.Keys.{spelled}
use Rattle.ordered_keys.proofs.part.key_of.Given as goal

abbrev pub invariant-parts : goal.invariant-parts
invariant-parts l = l.bytes.items ≡ spelled (take l.part-index l.parts)
