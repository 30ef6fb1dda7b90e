use Rattle.std.proofs.Common.{◌++◌, length, drop, replicate, ap, ◌∙◌, arith}
use Rattle.std.specs.Int.{from_be_bytes, w64}
use Rattle.sled_nodes.specs.Order.{Key}
use Rattle.sled_nodes.specs.theory.Fronts.{front}
use Rattle.sled_nodes.proofs.Fronts.{padded-over}
use Rattle.sled_nodes.proofs.order.short_front.Goals as goal

pub returns-clause-is : goal.returns-clause-is
unfolding front
returns-clause-is c = c.from_be_bytes.ensures ∙ ap (from_be_bytes w64) (ap (λ (z : Key). z ++ drop (length c.args.bytes.now) (replicate 8 0)) c.copy_from_slice.ensures.after ∙ padded-over 8 c.args.bytes.now (omega arith))
