use Rattle.std.proofs.Common.{arith}
use Rattle.sled_nodes.specs.Among.{bound_of, is_from}
use Rattle.sled_nodes.proofs.Rising.{first_of, none_from}
use Rattle.sled_nodes.proofs.ascending.first_place.Goals as goal

pub returns-then-count-pairs : goal.returns-then-count-pairs
returns-then-count-pairs g c =
    let p = c.count_before-count.ensures.parted in
    first_of (λ e. is_from (bound_of c.args.bound) e.0) c.args.pairs.now c.count_before-count.result p (omega arith)

pub returns-else-count-pairs : goal.returns-else-count-pairs
returns-else-count-pairs g c =
    let p = c.count_before-count.ensures.parted in
    none_from (λ e. is_from (bound_of c.args.bound) e.0) c.args.pairs.now c.count_before-count.result (omega arith) p
