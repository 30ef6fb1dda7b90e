use Rattle.std.proofs.Common.{◌≡◌, ◌++◌, take, drop}
use Rattle.sled_nodes.specs.Prefix.{shared}
use Rattle.sled_nodes.proofs.prefix.shared_len.Given as goal

-- the bytes so far are shared
abbrev pub invariant-loop-i : goal.invariant-loop-i
invariant-loop-i l = shared l.a l.b ≡ take l.i l.a ++ shared (drop l.i l.a) (drop l.i l.b)
