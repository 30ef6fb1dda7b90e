use Rattle.std.proofs.Common.{nat_le, ap, sym, ◌∙◌}
use Rattle.std.specs.List.{list_all}
use Rattle.sled_nodes.proofs.Behind.{all_value}
use Rattle.sled_nodes.proofs.stripped.Stripped+Pid.greatest.Goals as goal

pub returns-clause-all : goal.returns-clause-all
returns-clause-all c = ap (list_all (λ e. nat_le e.1 c.greatest_pid.result)) (sym c.self.view_is) ∙ (all_value c.self.inside.prefix (λ v. nat_le v c.greatest_pid.result) c.self.inside.rests ∙ (ap (list_all (λ e. nat_le e.1 c.greatest_pid.result)) (sym c.as_slice.ensures) ∙ c.greatest_pid.ensures.all))

pub returns-clause-least_such : goal.returns-clause-least_such
returns-clause-least_such c = λ n k e. c.greatest_pid.ensures.least_such n k (ap (list_all (λ x. nat_le x.1 n)) c.as_slice.ensures ∙ (sym (all_value c.self.inside.prefix (λ v. nat_le v n) c.self.inside.rests) ∙ (ap (list_all (λ x. nat_le x.1 n)) c.self.view_is ∙ e)))
