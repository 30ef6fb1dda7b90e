use Rattle.std.proofs.Common.{rules}
use Rattle.tree_lists.proofs.Operating.{replaced_in, pushed_out}
use Rattle.tree_lists.proofs.operators.set_operator.Goals as goal

pub returns-then-i-len-clause-ok : goal.returns-then-i-len-clause-ok
returns-then-i-len-clause-ok g c = replaced_in c.args.number c.args.operator c.args.operators.now.items c.place_of_number-i.result c.replace-old.new.dest (search rules) (search rules) (search rules)

pub returns-clause-ok : goal.returns-clause-ok
returns-clause-ok g c = pushed_out c.args.number c.args.operator c.args.operators.now.items c.place_of_number-i.result c.push.new.self.items (search rules) (search rules) (search rules)
