use Rattle.std.proofs.Common.{◌<◌, length, arith}
use Rattle.tree_check.proofs.Listed.{at_any}
use Rattle.tree_check.proofs.Finding.{received_none, pages_more, found_still}
use Rattle.tree_check.proofs.pointers.check_pointers.Goals as goal

pub loop-view-init : goal.loop-view-init
loop-view-init g c = ((λ k d low high. absurd (omega (arith, high))), received_none _ _ _ _)

pub loop-view-preserved : goal.loop-view-preserved
loop-view-preserved g c =
    let less : c.loop-view.view-index < length c.args.above.now = omega (arith, c.loop-view-test.true, c.loop-view.auto.view-index-end) in
    pages_more _ c.args.above.now _ c.loop-view.view-index c.view-item.result _ _ _ less c.loop-view.invariant (at_any c.args.above.now c.loop-view.view-index c.view-item.result less c.view-item.is) c.in_default.ensures.lead c.in_default.ensures.adds

pub returns-clause-adds : goal.returns-clause-adds
returns-clause-adds g c = c.loop-view.invariant.1

pub check_pointers_of-requires-clause-chain : goal.check_pointers_of-requires-clause-chain
check_pointers_of-requires-clause-chain g c κs within = found_still _ c.args.level c.args.levels.now c.loop-view.levels c.args.chain.now c.loop-view.invariant.1.kept c.requires.chain
