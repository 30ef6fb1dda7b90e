use Rattle.std.proofs.Common.{refl, sym, ap, ◌∙◌}
use Rattle.sled_store.specs.Store.{now}
use Rattle.tree_quick.specs.theory.Quick.{as_begun}
use Rattle.tree_quick.proofs.Straight.{leaf_tells, get_on_key}
use Rattle.tree_quick.proofs.quick.get_quick.Goals as goal

pub returns : goal.returns
returns g c operator =
    let key = get_on_key c.args.call.now c.requires in
    leaf_tells operator _ (as_begun c.args.tree.now c.args.call.now) _
    (c.in-Some-clean_leaf.ensures.leads.is c.args.tree.now c.args.call.now (ap (now (g.P.Pages.store c.args.pages.now)).roots (sym c.as_ref.ensures) ∙ (sym c.root.ensures ∙ c.in-Some.is)) key (sym c.key.ensures))
    c.args.call.now refl key c.requires _ c.value_of.ensures.ok c.value_of.ensures.err
