use Rattle.std.proofs.Common.{refl, sym, ap, ◌∙◌}
use Rattle.sled_store.specs.Store.{now}
use Rattle.tree_quick.specs.theory.Quick.{as_begun}
use Rattle.tree_quick.proofs.quick.change_quick.Goals as goal

pub returns-clause-made : goal.returns-clause-made
returns-clause-made g c =
    c.end_at.ensures (as_begun c.args.tree.now c.args.call.now) refl
    (c.in-Some-clean_leaf.ensures.leads.is c.args.tree.now c.args.call.now (ap (now (g.P.Pages.store c.args.pages.now)).roots (sym c.as_ref.ensures) ∙ (sym c.root.ensures ∙ c.in-Some.is)) c.requires (sym c.key.ensures))
