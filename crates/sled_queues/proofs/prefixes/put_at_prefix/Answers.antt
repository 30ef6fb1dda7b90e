use Rattle.std.proofs.Common.{◌++◌, ◌∷◌, [], Some, IsSome, ap, ◌∙◌, subst, rules}
use Rattle.sled_queues.specs.Lists.{items_of, at_prefix}
use Rattle.sled_queues.proofs.Prefixed.{written_prefix, put_first, same_both}
use Rattle.sled_queues.proofs.prefixes.put_at_prefix.Goals as goal

pub returns-in-Err-clause-err : goal.returns-in-Err-clause-err
returns-in-Err-clause-err c p =
    written_prefix c.args.prefix.now c.args.prefixes.now (c.get_mut.follows.lender c.put_number.new.list) (Some c.put_number.new.list) (λ l. l) ((c.get_mut.follows.holds c.put_number.new.list).3 (subst IsSome c.in-Some.ensures.value (search rules))) (c.in-Err.ensures.err ∙ ap items_of c.in-Some.ensures.value) p
    ∙ same_both _ (at_prefix c.args.prefixes.now p)

pub returns-in-Some-clause-ok : goal.returns-in-Some-clause-ok
returns-in-Some-clause-ok c =
    written_prefix c.args.prefix.now c.args.prefixes.now (c.get_mut.follows.lender c.put_number.new.list) (Some c.put_number.new.list) (λ l. l ++ c.args.number ∷ []) ((c.get_mut.follows.holds c.put_number.new.list).3 (subst IsSome c.in-Some.ensures.value (search rules))) (c.in_default-put_number.ensures.ok ∙ ap (λ o. items_of o ++ c.args.number ∷ []) c.in-Some.ensures.value)

pub returns-clause-ok : goal.returns-clause-ok
returns-clause-ok c =
    put_first c.args.prefix.now c.args.prefixes.now c.get_mut.follows.lender-at-none c.insert.new.self c.in_ok-own.own.items c.put_number-2.new.list c.args.number c.get_mut.follows.holds-at-none c.in_ok-own.ensures.items c.in_ok-insert.ensures.updates c.in_default.ensures.value
    (c.in_ok-put_number.ensures.ok ∙ ap (λ l. l ++ c.args.number ∷ []) c.new-numbers.ensures.items)
