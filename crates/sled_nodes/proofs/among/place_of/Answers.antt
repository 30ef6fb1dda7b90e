use Rattle.std.proofs.Common.{nat_eq, arith, sym}
use Rattle.sled_nodes.proofs.Found.{first_found}
use Rattle.sled_nodes.proofs.among.place_of.Goals as goal

pub returns-then-eq : goal.returns-then-eq
returns-then-eq c = first_found (λ e. nat_eq e.1 c.args.to) c.args.pointers.now c.loop-i.i c.index-pointers-i.result (omega arith) c.loop-i.invariant (sym c.if-eq.ensures)
