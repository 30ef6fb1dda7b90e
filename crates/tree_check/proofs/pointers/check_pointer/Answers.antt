use Rattle.std.proofs.Common.{◌≡◌, ◌∙◌, ◌<◌, length, get_or, ap, sym, subst, arith, rules}
use Rattle.sled_store.specs.In.{In}
use Rattle.sled_store.specs.declared.page.View.{View}
use Rattle.tree_check.proofs.Finding.{leads_found}
use Rattle.tree_check.proofs.Listed.{in_at, at_any}
use Rattle.tree_check.proofs.pointers.check_pointer.Goals as goal

pub returns-then-eq-clause-leads : goal.returns-then-eq-clause-leads
returns-then-eq-clause-leads g c =
    let less : c.args.next.now < length c.args.chain.now = search rules in
    let found : View = c.index-chain-next-then-eq.result in
    let at = at_any c.args.chain.now c.args.next.now found less c.index-chain-next-then-eq.is in
    let there : In found c.args.chain.now = subst (λ x. In x c.args.chain.now) (at found) (in_at c.args.chain.now c.args.next.now found less) in
    let leads : (get_or c.args.chain.now c.args.next.now c.index-chain-next.result).pid ≡ c.args.child = grind (arith, c.if-eq.ensures, c.eq.ensures) in
    let here : found.pid ≡ c.args.child = ap (λ (x : View). x.pid) (sym (at c.index-chain-next.result)) ∙ leads in
    leads_found _ c.args.view.now found c.args.level c.args.levels.now c.args.key.now c.args.child (c.requires.chain found there) here c.in_default.ensures.key c.in_default.ensures.merged c.in_default.ensures.few
