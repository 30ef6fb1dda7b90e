use Rattle.std.proofs.Common.{arith}
use Rattle.ordered_keys.proofs.Reading.{pushed_all}
use Rattle.ordered_keys.proofs.text.push_pieces.Goals as goal

pub returns-clause-ok : goal.returns-clause-ok
returns-clause-ok c = pushed_all c.args.text.now c.args.out.now.items c.bytes.out.items _ c.bytes.byte-index c.in_ok-extend_from_slice.ensures.items c.bytes.invariant (omega arith)
