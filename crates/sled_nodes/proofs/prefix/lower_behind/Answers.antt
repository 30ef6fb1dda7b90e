use Rattle.std.proofs.Common.{ap, sym, not, ◌∙◌, is_lt, is_gt}
use Rattle.sled_nodes.proofs.Fronts.{bytes_cmp}
use Rattle.sled_nodes.proofs.Prefixes.{cmp_rest, from_apart, above_apart, told_from}
use Rattle.sled_nodes.proofs.prefix.lower_behind.Goals as goal

pub returns-in-Some-clause-within : goal.returns-in-Some-clause-within
returns-in-Some-clause-within c = λ rest. rw c.in-Included.is (ap (λ o. not (is_lt o)) (cmp_rest c.args.prefix.now rest c.in-Included.start.now c.in-Some.rest.now c.in-Some.ensures))

pub returns-in-None-clause-within : goal.returns-in-None-clause-within
returns-in-None-clause-within c = λ rest. rw c.in-Included.is (from_apart c.args.prefix.now rest c.in-Included.start.now c.in-None.ensures ∙ (ap is_gt (sym (c.compare.ensures ∙ ap (λ p. bytes_cmp p c.in-Included.start.now) c.as_ref.ensures)) ∙ (sym c.is_gt.ensures ∙ sym (told_from c.is_gt.result c.all_or_none.result rest c.all_or_none.ensures))))

pub returns-in-Some-rest_of-clause-within : goal.returns-in-Some-rest_of-clause-within
returns-in-Some-rest_of-clause-within c = λ rest. rw c.in-Excluded.is (ap is_gt (cmp_rest c.args.prefix.now rest c.in-Excluded.start.now c.in-Some-rest_of.rest.now c.in-Some-rest_of.ensures))

pub returns-in-None-rest_of-clause-within : goal.returns-in-None-rest_of-clause-within
returns-in-None-rest_of-clause-within c = λ rest. rw c.in-Excluded.is (above_apart c.args.prefix.now rest c.in-Excluded.start.now c.in-None-rest_of.ensures ∙ (ap is_gt (sym (c.compare-in-None-rest_of.ensures ∙ ap (λ p. bytes_cmp p c.in-Excluded.start.now) c.as_ref-in-None-rest_of.ensures)) ∙ (sym c.is_gt-in-None-rest_of.ensures ∙ sym (told_from c.is_gt-in-None-rest_of.result c.all_or_none-in-None-rest_of.result rest c.all_or_none-in-None-rest_of.ensures))))
