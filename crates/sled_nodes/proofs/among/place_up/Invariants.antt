use Rattle.std.proofs.Common.{◌≡◌, ◌≤◌, false, length, take}
use Rattle.sled_nodes.specs.Among.{bound_of}
use Rattle.sled_nodes.specs.Ranges.{pairs_in}
use Rattle.sled_nodes.proofs.among.place_up.Given as goal

-- so many of those before are within, and no more than the place says
abbrev pub invariant-loop-i : goal.invariant-loop-i
invariant-loop-i l = (l.count ≡ length (pairs_in (record { lo = bound_of l.lo; hi = bound_of l.hi; back = false }) (take l.i l.pairs))) × (l.count ≤ l.place)
