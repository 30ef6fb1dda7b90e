use Rattle.std.proofs.Common.{◌≡◌, take}
use Rattle.sled_nodes.proofs.prefix.is_same.Given as goal

-- the bytes so far are the same
abbrev pub invariant-loop-i : goal.invariant-loop-i
invariant-loop-i l = take l.i l.a ≡ take l.i l.b
