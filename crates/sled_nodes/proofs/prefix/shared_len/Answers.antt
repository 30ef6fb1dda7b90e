use Rattle.std.proofs.Common.{◌≡◌, ℕ, subst, ◌++◌, take, drop, arith}
use Rattle.sled_nodes.specs.Prefix.{shared}
use Rattle.sled_nodes.proofs.Prefixes.{shared_whole}
use Rattle.sled_nodes.proofs.prefix.shared_len.Goals as goal

pub returns-clause-is : goal.returns-clause-is
returns-clause-is c =
    let n : c.loop-i.i ≡ c.min-most.result = omega arith in
    shared_whole c.args.a.now c.args.b.now c.min-most.result (omega arith) (omega arith) (λ h k. omega arith)
    (subst (λ (i : ℕ). shared c.args.a.now c.args.b.now ≡ take i c.args.a.now ++ shared (drop i c.args.a.now) (drop i c.args.b.now)) n c.loop-i.invariant)
