use Rattle.std.proofs.Common.{◌≡◌, None, sym, ap, ◌∙◌}
use Rattle.sled_store.specs.Store.{now}
use Rattle.sled.specs.Values.{db_state}
use Rattle.sled.proofs.Reading.{no_root}
use Rattle.sled.proofs.Transacting.{tested_at, so_over}
use Rattle.sled.proofs.db.Db.roots_of.Goals as goal

pub unreachable-requires : goal.unreachable-requires
unreachable-requires g c =
    let store = g.P.Pages.store in
    no_root store g.M.MergeOperator.meant c.args.self.now c.tree-item.result.now
    (tested_at (db_state store g.M.MergeOperator.meant c.args.self.now) c.args.trees.now c.loop-tree.tree-index c.tree-item.result c.loop-tree-test.true c.tree-item.is c.in_default.ensures.ok)
    (so_over store _ _ c.self.view_is (λ s n. None ≡ (now s).roots c.tree-item.result.now.name) (sym c.in-None.is ∙ c.root.ensures ∙ ap (now (store c.self.inside.pages)).roots c.as_ref.ensures))
