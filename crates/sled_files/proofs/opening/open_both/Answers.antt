use Rattle.std.proofs.Common.{arith}
use Rattle.sled_files.proofs.Choosing.{even_none}
use Rattle.sled_files.proofs.opening.open_both.Goals as goal

pub returns-clause-err : goal.returns-clause-err
returns-clause-err c first second one two = even_none first second one two (omega (arith, c.if-two-one.false, c.if-one-two.false))
