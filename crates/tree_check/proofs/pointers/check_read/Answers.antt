use Rattle.std.proofs.Common.{sym, ap, ◌∙◌}
use Rattle.sled_nodes.specs.declared.node.Node.{Node}
use Rattle.tree_check.proofs.Finding.{received_one}
use Rattle.tree_check.proofs.pointers.check_read.Goals as goal

pub returns-in-Ok-done-clause-adds : goal.returns-in-Ok-done-clause-adds
returns-in-Ok-done-clause-adds g c =
    let read = c.in-Ok.ensures.ok in
    received_one _ c.args.view.now c.in-Ok.found c.args.level c.args.child _ _ read.live read.is
    (λ m. ap (λ (n : Node). n.merging_child) (sym c.deref-2.ensures) ∙ c.merges.ensures.0 (c.in_default.ensures.merged (ap (λ (n : Node). n.merging) c.deref.ensures ∙ m)))
    c.in-Ok-done.ensures.kept c.in-Ok-done.ensures.adds
