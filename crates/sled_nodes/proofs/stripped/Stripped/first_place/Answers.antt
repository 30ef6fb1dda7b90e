use Rattle.sled_nodes.proofs.Strings.{nothing_before}
use Rattle.sled_nodes.proofs.stripped.Stripped.first_place.Goals as goal

pub returns-then-is_nothing : goal.returns-then-is_nothing
returns-then-is_nothing g c = rw (← nothing_before c.self.inside.prefix c.self.inside.rests c.args.self.now (c.is_nothing.ensures c.if-is_nothing.true) c.self.view_is) c.first_place.ensures
