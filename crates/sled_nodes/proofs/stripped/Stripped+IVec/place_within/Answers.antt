use Rattle.std.proofs.Common.{◌++◌, ap, ◌∙◌}
use Rattle.sled_nodes.specs.Among.{bound_of, is_up_to, is_from}
use Rattle.sled_nodes.specs.theory.Stripped.{is_up_to_in, is_from_in}
use Rattle.sled_nodes.proofs.Basics.{first_off, second_off}
use Rattle.sled_nodes.proofs.Inside.{place_behind, none_within}
use Rattle.sled_nodes.proofs.stripped.Stripped+IVec.place_within.Goals as goal

pub returns-in-Some-upper_behind : goal.returns-in-Some-upper_behind
returns-in-Some-upper_behind c = rw (← c.self.view_is) (place_behind c.self.inside.prefix (bound_of c.args.lo) (bound_of c.args.hi) c.args.back c.self.inside.rests c.args.place (bound_of c.in-Some.from) (bound_of c.in-Some-upper_behind.to) c.place_within.result
    (λ r. c.lower_behind.ensures.within r ∙ ap (λ b. is_from_in b r) c.in-Some.is)
    (λ r. c.upper_behind.ensures.within r ∙ ap (λ b. is_up_to_in b r) c.in-Some-upper_behind.is)
    c.place_within.ensures)

pub returns-in-None-upper_behind : goal.returns-in-None-upper_behind
returns-in-None-upper_behind c = rw (← c.self.view_is) (none_within c.self.inside.prefix (bound_of c.args.lo) (bound_of c.args.hi) c.args.back c.self.inside.rests c.args.place
    (λ r. second_off (is_from (bound_of c.args.lo) (c.self.inside.prefix ++ r)) _ (c.upper_behind.ensures.within r ∙ ap (λ b. is_up_to_in b r) c.in-None-upper_behind.is)))

pub returns-in-None : goal.returns-in-None
returns-in-None c = rw (← c.self.view_is) (none_within c.self.inside.prefix (bound_of c.args.lo) (bound_of c.args.hi) c.args.back c.self.inside.rests c.args.place
    (λ r. first_off _ (is_up_to (bound_of c.args.hi) (c.self.inside.prefix ++ r)) (c.lower_behind.ensures.within r ∙ ap (λ b. is_from_in b r) c.in-None.is)))
