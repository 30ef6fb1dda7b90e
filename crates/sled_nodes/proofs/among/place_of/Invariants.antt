use Rattle.std.proofs.Common.{◌≡◌, false, nat_eq, take}
use Rattle.std.specs.List.{list_any}
use Rattle.sled_nodes.proofs.among.place_of.Given as goal

abbrev pub invariant-loop-i : goal.invariant-loop-i
invariant-loop-i l = list_any (λ e. nat_eq e.1 l.to) (take l.i l.pointers) ≡ false
