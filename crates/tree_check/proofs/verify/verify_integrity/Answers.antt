use Rattle.std.proofs.Common.{◌≡◌, ◌<◌, true, length, ap, ◌∙◌, arith}
use Rattle.std.specs.FinMap.Entries.{is_sorted}
use Rattle.sled_nodes.specs.Order.{key_cmp}
use Rattle.tree_check.proofs.Treeing.{verify_begins, verify_next, verify_is}
use Rattle.tree_check.proofs.verify.verify_integrity.Goals as goal

pub loop-i-init : goal.loop-i-init
loop-i-init g c = verify_begins _ _ c.new-levels.ensures.empty

pub loop-i-preserved : goal.loop-i-preserved
loop-i-preserved g c =
    let less : c.loop-i.i < length c.as_slice-list.result.now = omega (arith, c.loop-i-test.true, c.loop-i.auto.i-end) in
    let sorted : is_sorted key_cmp c.as_slice-list.result.now ≡ true = ap (is_sorted key_cmp) c.as_slice-list.ensures.value ∙ c.in-Ok.ensures.ok.ascends in
    verify_next _ c.as_slice-list.result.now c.loop-i.i c.index-list-i.result _ _ less sorted c.index-list-i.is c.loop-i.invariant c.in_default.ensures.ok

pub returns-clause-ok : goal.returns-clause-ok
returns-clause-ok g c = verify_is _ c.as_slice-list.result.now c.in-Ok.roots.items c.loop-i.i _ c.as_slice-list.ensures.value c.loop-i-test.false c.in-Ok.ensures.ok c.loop-i.invariant
