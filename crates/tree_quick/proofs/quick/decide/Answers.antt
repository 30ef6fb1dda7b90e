use Rattle.std.proofs.Common.{ap, ◌∙◌, sym, Some}
use Rattle.std.specs.Option.{option_map}
use Rattle.sled_nodes.specs.Node.{value_at}
use Rattle.sled_nodes.specs.declared.link.Link.TheVariants.{Set}
use Rattle.sled_model.specs.Answer.{decision_of, key_of}
use Rattle.sled_tree.specs.Change.{link_of}
use Rattle.tree_quick.proofs.Straight.{replies_so, links_so}
use Rattle.tree_quick.proofs.quick.decide.Goals as goal

pub returns-in-Nothing-clause-ok : goal.returns-in-Nothing-clause-ok
returns-in-Nothing-clause-ok g c =
    let operator = option_map (λ o. g.M.MergeOperator.meant o.now) c.args.operator in
    replies_so operator c.args.call.now c.args.node.now.content c.in_ok-effect.field-0
    (c.in_ok-effect.ensures.ok ∙ ap (decision_of operator c.args.call.now) (c.in_ok-value.ensures.ok ∙ ap (value_at c.args.node.now.content) c.key.ensures)) c.in-Nothing.is

pub returns-in-Ok-clause-ok : goal.returns-in-Ok-clause-ok
returns-in-Ok-clause-ok g c =
    let operator = option_map (λ o. g.M.MergeOperator.meant o.now) c.args.operator in
    links_so operator c.args.call.now c.args.node.now.content c.in_ok-effect.field-0
    (c.in_ok-effect.ensures.ok ∙ ap (decision_of operator c.args.call.now) (c.in_ok-value.ensures.ok ∙ ap (value_at c.args.node.now.content) c.key.ensures))
    (Set c.in-Ok.key c.in-Set.value) (ap (λ e. link_of e (key_of c.args.call.now)) c.in-Set.is ∙ ap (λ k. Some (Set k c.in-Set.value)) (sym c.in-Ok.ensures.ok))
