use Rattle.std.proofs.Common.{refl}
use Rattle.sled_store.specs.Roots.{roots_of}
use Rattle.example_stores.proofs.Logging.{root_listed, root_kept, all_listed}
use Rattle.example_stores.proofs.log_pages.LogPagesPages.roots.Goals as goal
use Rattle.example_stores.proofs.log_pages.LogPagesPages.roots.Goals.{in-RootBecame+in_ok-set_root, in_default}

pub loop-action-preserved : goal.loop-action-preserved
loop-action-preserved c = elim c.match-action.branch [
  | in-RootBecame+in_ok-set_root w ↦ rw w.roots-is (record {
    ascends = w.in_ok-set_root.ensures.ascends;
    is = root_listed c.as_slice-action-items.result.now c.loop-action.action-index c.action-item.result c.loop-action-test.true c.action-item.is (roots_of c.loop-action.roots.items) (roots_of w.set_root.new.roots.items) c.loop-action.invariant.is
        w.in-RootBecame.name w.in-RootBecame.root w.in-RootBecame.is w.in_ok-set_root.ensures.ok;
  })
  | in_default w ↦ rw w.roots-is (record {
    ascends = c.loop-action.invariant.ascends;
    is = root_kept c.as_slice-action-items.result.now c.loop-action.action-index c.action-item.result c.loop-action-test.true c.action-item.is (roots_of c.loop-action.roots.items) (roots_of c.loop-action.roots.items) c.loop-action.invariant.is
        c.action-item.result refl w.in_default.not-RootBecame refl;
  })
]

pub returns-clause-ok : goal.returns-clause-ok
returns-clause-ok c = all_listed c.args.self.now c.as_slice-action-items.result.now c.loop-action.action-index c.loop-action.roots.items c.as_slice-action-items.ensures.value c.loop-action-test.false c.loop-action.invariant.ascends c.loop-action.invariant.is
