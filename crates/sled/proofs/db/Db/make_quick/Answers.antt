use Rattle.std.proofs.Common.{ap, ◌∙◌, subst, IfSome}
use Rattle.std.specs.Option.{option_map}
use Rattle.std.specs.Ordering.{nat_cmp}
use Rattle.std.specs.FinMap.Entries.{find}
use Rattle.tree_quick.specs.theory.Quick.{as_begun, RunsStraight}
use Rattle.sled.proofs.Operating.{mapped}
use Rattle.sled.proofs.Walking.{quickly_as}
use Rattle.sled.proofs.db.Db.make_quick.Goals as goal

pub invariant_of-self : goal.invariant_of-self
invariant_of-self g c =
    (quickly_as g.P.Pages.store g.M.MergeOperator.meant _ c.self.invariant c.args.tree.now c.args.call.now c.requires.on_key (c.tells_nobody.ensures c.if-not-tells_nobody.false) _ c.self.view_is c.make_quick.new.pages c.make_quick.result c.requires.tested
    (subst (λ o. IfSome c.make_quick.result (λ made. RunsStraight o (g.P.Pages.store c.self.inside.pages) (as_begun c.args.tree.now c.args.call.now) made (g.P.Pages.store c.make_quick.new.pages)))
    (mapped g.M.MergeOperator.meant (λ o. o.now) c.operator_of-operator.result ∙ ap (option_map g.M.MergeOperator.meant) (c.operator_of-operator.ensures ∙ ap (find nat_cmp c.args.tree.now.number) c.as_slice.ensures.value))
    c.make_quick.ensures.made)
    c.make_quick.ensures.nothing).sound

pub returns : goal.returns
returns g c =
    let q =
    quickly_as g.P.Pages.store g.M.MergeOperator.meant _ c.self.invariant c.args.tree.now c.args.call.now c.requires.on_key (c.tells_nobody.ensures c.if-not-tells_nobody.false) _ c.self.view_is c.make_quick.new.pages c.make_quick.result c.requires.tested
    (subst (λ o. IfSome c.make_quick.result (λ made. RunsStraight o (g.P.Pages.store c.self.inside.pages) (as_begun c.args.tree.now c.args.call.now) made (g.P.Pages.store c.make_quick.new.pages)))
    (mapped g.M.MergeOperator.meant (λ o. o.now) c.operator_of-operator.result ∙ ap (option_map g.M.MergeOperator.meant) (c.operator_of-operator.ensures ∙ ap (find nat_cmp c.args.tree.now.number) c.as_slice.ensures.value))
    c.make_quick.ensures.made)
    c.make_quick.ensures.nothing in record { made = q.steps; nothing = q.nothing }
