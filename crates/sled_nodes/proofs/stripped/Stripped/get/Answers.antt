use Rattle.sled_nodes.proofs.Strings.{nothing_before}
use Rattle.sled_nodes.proofs.stripped.Stripped.get.Goals as goal

pub returns-then-is_nothing : goal.returns-then-is_nothing
returns-then-is_nothing g c = rw (← nothing_before c.self.inside.prefix c.self.inside.rests c.args.self.now (c.is_nothing.ensures c.if-is_nothing.true) c.self.view_is) c.get.ensures
