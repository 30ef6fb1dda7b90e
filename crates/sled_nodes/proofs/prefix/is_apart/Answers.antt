use Rattle.std.proofs.Common.{rules}
use Rattle.sled_nodes.proofs.Strings.{apart_empty}
use Rattle.sled_nodes.proofs.prefix.is_apart.Goals as goal

pub returns-then-is_empty-2 : goal.returns-then-is_empty-2
returns-then-is_empty-2 c = λ e. apart_empty c.args.a.now c.args.b.now (search rules)
