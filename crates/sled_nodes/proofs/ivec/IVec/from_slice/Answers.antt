use Rattle.std.proofs.Common.{◌≡◌, ◌≤◌, length, take, sym, subst, arith}
use Rattle.sled_nodes.specs.Order.{Key}
use Rattle.sled_nodes.specs.Bytes.{padded}
use Rattle.sled_nodes.proofs.Fronts.{padded-copied}
use Rattle.sled_nodes.proofs.ivec.IVec.from_slice.Goals as goal

pub invariant_of-result : goal.invariant_of-result
invariant_of-result c = padded-copied 22 c.args.bytes.now c.copy_from_slice.new.self (omega arith) c.copy_from_slice.ensures.after

pub invariant_of-result-then-bytes-le-MIDDLE : goal.invariant_of-result-then-bytes-le-MIDDLE
invariant_of-result-then-bytes-le-MIDDLE c =
    subst (λ (z : Key). (length c.args.bytes.now ≤ 56) × (padded 56 (take (length c.args.bytes.now) z) ≡ z)) (sym c.in_ok-new.ensures.ok)
    (padded-copied 56 c.args.bytes.now c.copy_from_slice-then-bytes-le-MIDDLE.new.self (omega arith) c.copy_from_slice-then-bytes-le-MIDDLE.ensures.after)
