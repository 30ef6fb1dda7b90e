use Rattle.std.proofs.Common.{ap, refl, ◌∙◌, false}
use Rattle.sled_nodes.specs.Among.{bound_of, is_from}
use Rattle.sled_nodes.specs.theory.Stripped.{is_from_in}
use Rattle.sled_nodes.proofs.Behind.{first_behind, none_behind}
use Rattle.sled_nodes.proofs.stripped.Stripped.first_behind.Goals as goal

pub returns-in-Some : goal.returns-in-Some
returns-in-Some g c = rw (← c.self.view_is) (first_behind c.self.inside.prefix (λ k. is_from (bound_of c.args.bound) k) (λ k. is_from (bound_of c.in-Some.rest) k) (λ r. c.lower_behind.ensures.within r ∙ ap (λ b. is_from_in b r) c.in-Some.is) c.self.inside.rests c.first_place.result c.first_place.ensures)

pub returns-in-None : goal.returns-in-None
returns-in-None g c = rw (← c.self.view_is) (none_behind c.self.inside.prefix (λ k. is_from (bound_of c.args.bound) k) (λ k. false) (λ r. c.lower_behind.ensures.within r ∙ ap (λ b. is_from_in b r) c.in-None.is) (λ r. refl) c.self.inside.rests)
