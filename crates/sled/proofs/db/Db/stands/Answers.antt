use Rattle.std.proofs.Common.{◌∙◌}
use Rattle.sled.proofs.Changes.{stands_on, stands_still}
use Rattle.sled.proofs.db.Db.stands.Goals.{then-other-tree, else-other-tree}
use Rattle.sled.proofs.db.Db.stands.Goals as goal

pub loop-other-preserved : goal.loop-other-preserved
loop-other-preserved g c = elim c.if-other-tree.branch [
  | then-other-tree w ↦ stands_on g.P.Pages.store g.M.MergeOperator.meant c.args.self.now c.args.tree.now c.args.key.now c.args.value.now c.audit.ensures.sound c.args.before.now c.requires.tested c.loop-other.other-index c.loop-other-item.result c.loop-other-test.true c.loop-other-item.is
      c.loop-other.stands c.if-other-tree.stands w.stands_over-stands.ensures.rise w.if-other-tree.true c.loop-other.invariant (w.stands-is ∙ w.stands_over-stands.ensures.value)
  | else-other-tree w ↦ stands_still g.P.Pages.store g.M.MergeOperator.meant c.args.self.now c.args.tree.now c.args.key.now c.args.value.now c.audit.ensures.sound c.args.before.now c.requires.tested c.loop-other.other-index c.loop-other-item.result c.loop-other-test.true c.loop-other-item.is
      c.loop-other.stands c.if-other-tree.stands w.if-other-tree.false c.loop-other.invariant w.stands-is
]
