use Rattle.std.proofs.Common.{ap, ◌∙◌}
use Rattle.sled_nodes.specs.Among.{bound_of}
use Rattle.sled_nodes.specs.theory.Stripped.{is_up_to_in}
use Rattle.sled_nodes.proofs.Inside.{count_behind, count_none}
use Rattle.sled_nodes.proofs.stripped.Stripped+IVec.count_up_to.Goals as goal

pub returns-in-Some : goal.returns-in-Some
returns-in-Some c = rw (← c.self.view_is) (count_behind c.self.inside.prefix (bound_of c.args.bound) (bound_of c.in-Some.rest) c.self.inside.rests c.count_up_to.result (λ r. c.upper_behind.ensures.within r ∙ ap (λ b. is_up_to_in b r) c.in-Some.is) c.count_up_to.ensures)

pub returns-in-None : goal.returns-in-None
returns-in-None c = rw (← c.self.view_is) (count_none c.self.inside.prefix (bound_of c.args.bound) c.self.inside.rests (λ r. c.upper_behind.ensures.within r ∙ ap (λ b. is_up_to_in b r) c.in-None.is))
