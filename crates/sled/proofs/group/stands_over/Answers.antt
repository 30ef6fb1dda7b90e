use Rattle.std.proofs.Common.{ap, ◌∙◌}
use Rattle.sled_nodes.specs.Order.{key_cmp}
use Rattle.sled.specs.theory.Groups.{stands_over}
use Rattle.sled.proofs.Changes.{found_by}
use Rattle.sled.proofs.group.stands_over.Goals as goal

pub returns-in-Some-clause-value : goal.returns-in-Some-clause-value
unfolding key_cmp
returns-in-Some-clause-value c = c.eq.ensures ∙ ap (λ found. stands_over found c.args.value.now c.args.stands) (found_by c.args.key.now _ c.args.batch.now _ c.in-Some.ensures.value c.writes.ensures.entries)

pub returns-in-None-clause-value : goal.returns-in-None-clause-value
unfolding key_cmp
returns-in-None-clause-value c = ap (λ found. stands_over found c.args.value.now c.args.stands) (found_by c.args.key.now _ c.args.batch.now _ c.in-None.ensures.value c.writes.ensures.entries)
