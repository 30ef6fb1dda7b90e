use Rattle.std.proofs.Common.{ap, ◌∙◌, arith}
use Rattle.std.specs.Ordering.{is_eq}
use Rattle.sled_nodes.proofs.Strings.{same_so_far, same_all, same_told}
use Rattle.sled_nodes.proofs.prefix.is_same.Goals as goal

pub returns-then-a-ge8 : goal.returns-then-a-ge8
returns-then-a-ge8 c = same_told c.args.a.now c.args.b.now c.is_eq.result (c.is_eq.ensures ∙ ap is_eq c.compare.ensures)

pub loop-i-preserved : goal.loop-i-preserved
loop-i-preserved c = same_so_far c.args.a.now c.args.b.now c.loop-i.i (omega arith) (omega arith) c.if-a-i.false c.loop-i.invariant

pub returns : goal.returns
returns c = same_all c.args.a.now c.args.b.now c.loop-i.i (omega arith) (omega arith) c.loop-i.invariant
