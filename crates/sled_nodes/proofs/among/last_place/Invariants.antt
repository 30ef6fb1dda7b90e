use Rattle.std.proofs.Common.{◌≡◌, false, take, MatchOption}
use Rattle.std.specs.List.{list_any}
use Rattle.sled_nodes.specs.Among.{bound_of, is_up_to}
use Rattle.sled_nodes.specs.theory.Places.{IsLastAt}
use Rattle.sled_nodes.proofs.among.last_place.Given as goal

abbrev pub invariant-loop-i : goal.invariant-loop-i
invariant-loop-i g l = MatchOption l.found (list_any (λ e. is_up_to (bound_of l.bound) e.0) (take l.i l.pairs) ≡ false) (IsLastAt (λ e. is_up_to (bound_of l.bound) e.0) (take l.i l.pairs))
