use Rattle.std.proofs.Common.{◌≡◌, ◌+◌, ◌-◌, ◌≤◌, ℕ, true, false, length, subst, arith}
use Rattle.std.specs.List.Sorted.{IsPartitionPoint}
use Rattle.sled_nodes.specs.Among.{bound_of, is_up_to}
use Rattle.sled_nodes.proofs.Rising.{last_of, none_of}
use Rattle.sled_nodes.proofs.ascending.last_place.Goals as goal

pub returns-then-count-gt0 : goal.returns-then-count-gt0
returns-then-count-gt0 g c =
    let p = c.count_up_to-count.ensures.parted in
    let n : c.count_up_to-count.result ≡ c.count_up_to-count.result - 1 + 1 = omega arith in
    let h : c.count_up_to-count.result ≤ length c.args.pairs.now = c.count_up_to-count.ensures.bound in
    last_of (λ e. is_up_to (bound_of c.args.bound) e.0) c.args.pairs.now (c.count_up_to-count.result - 1) (subst (λ (m : ℕ). IsPartitionPoint (λ e. is_up_to (bound_of c.args.bound) e.0 ≡ true) (λ e. is_up_to (bound_of c.args.bound) e.0 ≡ false) c.args.pairs.now m) n p) (omega arith)

pub returns-else-count-gt0 : goal.returns-else-count-gt0
returns-else-count-gt0 g c =
    let p = c.count_up_to-count.ensures.parted in
    none_of (λ e. is_up_to (bound_of c.args.bound) e.0) c.args.pairs.now c.count_up_to-count.result (omega arith) p
