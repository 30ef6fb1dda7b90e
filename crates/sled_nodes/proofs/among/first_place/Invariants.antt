use Rattle.std.proofs.Common.{◌≡◌, false, take}
use Rattle.std.specs.List.{list_any}
use Rattle.sled_nodes.specs.Among.{bound_of, is_from}
use Rattle.sled_nodes.proofs.among.first_place.Given as goal

abbrev pub invariant-loop-i : goal.invariant-loop-i
invariant-loop-i g l = list_any (λ e. is_from (bound_of l.bound) e.0) (take l.i l.pairs) ≡ false
