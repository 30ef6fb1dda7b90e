use Rattle.std.proofs.Common.{Some, IsSome, ap, ◌∙◌, subst, rules}
use Rattle.sled_queues.specs.Lists.{items_of, at_prefix}
use Rattle.sled_queues.specs.theory.Lists.{without}
use Rattle.sled_queues.proofs.Prefixed.{written_prefix, goes_empty}
use Rattle.sled_queues.proofs.prefixes.take_at_prefix.Goals as goal
use Rattle.sled_queues.proofs.prefixes.take_at_prefix.Goals.{then-take_number, else-take_number}

pub returns-clause-rest : goal.returns-clause-rest
returns-clause-rest c p =
    let rest = c.take_number.ensures.rest ∙ ap (λ o. without c.args.number (items_of o)) c.in-Some.ensures.value in
    let updates = (c.get_mut.follows.holds c.take_number.new.list).3 (subst IsSome c.in-Some.ensures.value (search rules)) in
    elim c.if-take_number.branch [
      | then-take_number w ↦ ap (λ m. at_prefix m p) w.prefixes-is ∙ goes_empty c.args.prefix.now c.args.prefixes.now (c.get_mut.follows.lender c.take_number.new.list) w.remove-none.new.self c.take_number.new.list (without c.args.number) updates w.remove-none.ensures.updates rest (w.if-take_number.ensures.empty (search rules)) p
      | else-take_number w ↦ ap (λ m. at_prefix m p) w.prefixes-is ∙ written_prefix c.args.prefix.now c.args.prefixes.now (c.get_mut.follows.lender c.take_number.new.list) (Some c.take_number.new.list) (without c.args.number) updates rest p
    ]
