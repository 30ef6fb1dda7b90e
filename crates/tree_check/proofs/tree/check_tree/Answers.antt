use Rattle.std.proofs.Common.{◌≡◌, ◌-◌, arith, subst}
use Rattle.sled_store.specs.Store.{now}
use Rattle.tree_check.specs.theory.Walk.{WalksTree}
use Rattle.tree_check.proofs.Treeing.{walk_begins, walk_starts, walk_goes, walk_ends}
use Rattle.tree_check.proofs.tree.check_tree.Goals as goal

pub loop-passed-init : goal.loop-passed-init
loop-passed-init g c = walk_starts _ _ _ _ _ _ _ (walk_begins _ _ _ _ _ _ _ _ c.requires.new c.new-no_children.ensures.empty c.in-Ok-read.ensures.ok)

pub loop-passed-preserved : goal.loop-passed-preserved
loop-passed-preserved g c =
    walk_goes _ _ _ _ _ _ _ _ _ _ _ _ (omega (arith, c.loop-passed-test.true, c.loop-passed.auto.passed-end)) c.loop-passed.invariant c.as_slice.ensures.value c.in-Ok-check_level.ensures.ok c.replace-old.ensures.after

-- at the end there is no level left below
pub returns-clause-ok : goal.returns-clause-ok
returns-clause-ok g c =
    let last : c.in-Ok.top - c.loop-passed.passed ≡ 0 = omega (arith, c.loop-passed-test.false, c.loop-passed.auto.passed-end) in
    walk_ends _ _ _ _ _ _ (subst (λ height. WalksTree (now (g.P.Pages.store c.args.pages.now)) c.args.root c.args.tree height c.loop-passed.above.items c.args.levels.now c.loop-passed.levels) last c.loop-passed.invariant)
