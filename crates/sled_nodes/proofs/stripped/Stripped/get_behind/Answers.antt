use Rattle.std.proofs.Common.{sym, ◌∙◌}
use Rattle.sled_nodes.proofs.Behind.{find_behind, find_other}
use Rattle.sled_nodes.proofs.stripped.Stripped.get_behind.Goals as goal

pub returns-in-Some : goal.returns-in-Some
returns-in-Some g c = rw (← c.self.view_is) (c.get.ensures ∙ sym (find_behind c.self.inside.prefix c.args.key.now c.in-Some.rest.now c.self.inside.rests c.in-Some.ensures))

pub returns-in-None : goal.returns-in-None
returns-in-None g c = rw (← c.self.view_is) (sym (find_other c.self.inside.prefix c.args.key.now c.self.inside.rests c.in-None.ensures))
