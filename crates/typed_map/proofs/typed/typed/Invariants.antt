use Rattle.std.proofs.Common.{take}
use Rattle.typed_map.specs.Typed.{IsTyped}
use Rattle.typed_map.proofs.typed.typed.Given as goal

abbrev pub invariant-pairs : goal.invariant-pairs
invariant-pairs g l = IsTyped g.K.Spelled.spelling g.V.Spelled.spelling (take l.pair-index l.pairs) l.found.items
