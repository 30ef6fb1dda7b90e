use Rattle.sled_nodes.proofs.Behind.{out_behind, out_other}
use Rattle.sled_nodes.proofs.stripped.Stripped.place_alone.Goals as goal

pub returns-in-Some : goal.returns-in-Some
returns-in-Some g c = rw (← c.self.view_is) (out_behind c.self.inside.prefix c.args.key.now c.in-Some.rest.now c.self.inside.rests c.place_alone.result c.in-Some.ensures c.place_alone.ensures)

pub returns-in-None : goal.returns-in-None
returns-in-None g c = rw (← c.self.view_is) (out_other c.self.inside.prefix c.args.key.now c.self.inside.rests c.in-None.ensures)
