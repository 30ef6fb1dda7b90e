use Rattle.std.proofs.Common.{rules, not, nat_eq}
use Rattle.std.proofs.lemmas.Fn.{filter_same}
use Rattle.tree_lists.proofs.operators.take_operator.Goals as goal

pub returns : goal.returns
returns g c = filter_same _ (λ o. not (nat_eq o.0 c.args.number)) _ (λ x b f' k. search rules) _ _ c.retain.ensures.filtered
