use Rattle.std.proofs.Common.{arith, take, sym, subst, ◌∙◌}
use Rattle.std.specs.Cmp.{nat_cmp_total}
use Rattle.std.specs.List.Sorted.{IsStrictlySortedBy}
use Rattle.std.specs.Ordering.{nat_cmp}
use Rattle.std.proofs.lemmas.Map.Lookups.{btree_map_from_get, exact_unsigned}
use Rattle.sled_queues.specs.theory.Lists.{gains}
use Rattle.sled_queues.proofs.Single.{take_once}
use Rattle.sled_queues.proofs.Changing.{changes_more, changes_all, goes_back}
use Rattle.sled_queues.proofs.lists.prepare_all.Goals as goal

pub loop-i-preserved : goal.loop-i-preserved
loop-i-preserved c = (
  changes_more (gains c.args.event.now) c.args.numbers.now c.loop-i.i 0 _ _ _ c.requires c.loop-i-test.true c.loop-i.invariant.0 c.in_default.ensures.ok,
  c.prepare.ensures.keys ∙ c.loop-i.invariant.1,
)

pub take_back_all-requires : goal.take_back_all-requires
take_back_all-requires c = take_once c.loop-i.i c.args.numbers.now c.requires

pub returns-in-Err-clause-err : goal.returns-in-Err-clause-err
returns-in-Err-clause-err c =
    let was = subst (IsStrictlySortedBy nat_cmp) c.loop-i.invariant.1 c.prepare.ensures.ordered in
    let is = subst (IsStrictlySortedBy nat_cmp) (sym (c.take_back_all.ensures.keys ∙ c.prepare.ensures.keys)) c.prepare.ensures.ordered in
    btree_map_from_get nat_cmp_total c.take_back_all.new.queues c.args.queues.now is was (goes_back c.args.event.now (take c.loop-i.i c.args.numbers.now) _ _ _ _ c.loop-i.invariant.0 c.in-Err.ensures.err c.take_back_all.ensures.changed) exact_unsigned

pub returns-clause-ok : goal.returns-clause-ok
returns-clause-ok c = changes_all (gains c.args.event.now) c.args.numbers.now c.loop-i.i _ _ (omega arith) c.loop-i.invariant.0
