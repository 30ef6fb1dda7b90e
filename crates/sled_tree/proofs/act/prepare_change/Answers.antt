use Rattle.std.proofs.Common.{ap, ◌∙◌}
use Rattle.sled_nodes.specs.Node.{value_at}
use Rattle.sled_nodes.specs.declared.node.Node.{Node}
use Rattle.sled_tree.proofs.Linking.{prepares}
use Rattle.sled_tree.proofs.act.prepare_change.Goals as goal

pub returns-clause-ok : goal.returns-clause-ok
returns-clause-ok g c = prepares _ c.args.flight.now c.in-Act.view c.in_ok-value-in-Act.value c.in_ok-decision-in-Act.decision c.change_by.result c.in-Act.is
    (c.in_ok-value-in-Act.ensures.ok ∙ ap (λ (n : Node). value_at n.content c.key.result.now) c.deref.ensures ∙ ap (value_at c.in-Act.view.node.content) c.key.ensures)
    c.in_ok-decision-in-Act.ensures.ok c.change_by.ensures.ok
