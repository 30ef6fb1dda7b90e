use Rattle.std.proofs.Common.{rules, not, nat_eq}
use Rattle.std.proofs.lemmas.Fn.{filter_same}
use Rattle.sled_queues.proofs.prefixes.take_number.Goals as goal

pub returns-clause-rest : goal.returns-clause-rest
returns-clause-rest c = filter_same _ (λ m. not (nat_eq m c.args.number)) _ (λ x b f' k. search rules) _ _ c.retain.ensures.filtered
