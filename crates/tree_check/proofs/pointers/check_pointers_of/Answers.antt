use Rattle.std.proofs.Common.{◌<◌, length, arith}
use Rattle.tree_check.proofs.Listed.{at_any}
use Rattle.tree_check.proofs.Finding.{received_none, pointers_more, found_still}
use Rattle.tree_check.proofs.pointers.check_pointers_of.Goals as goal

pub loop-pointer-init : goal.loop-pointer-init
loop-pointer-init g c = ((λ k d low high. absurd (omega (arith, high))), received_none _ _ _ _)

pub loop-pointer-preserved : goal.loop-pointer-preserved
loop-pointer-preserved g c =
    let es = c.as_slice-pointer-items.result.now in
    let less : c.loop-pointer.pointer-index < length es = omega (arith, c.loop-pointer-test.true, c.loop-pointer.auto.pointer-index-end) in
    pointers_more _ c.args.view.now _ es c.loop-pointer.pointer-index c.pointer-item.result _ _ _ c.loop-pointer.invariant (at_any es c.loop-pointer.pointer-index c.pointer-item.result less c.pointer-item.is) c.in_default.ensures.leads c.in_default.ensures.adds

pub returns-clause-adds : goal.returns-clause-adds
returns-clause-adds g c = c.loop-pointer.invariant.1

pub check_pointer-requires-clause-chain : goal.check_pointer-requires-clause-chain
check_pointer-requires-clause-chain g c κs within = found_still _ c.args.level c.args.levels.now c.loop-pointer.levels c.args.chain.now c.loop-pointer.invariant.1.kept c.requires.chain
