use Rattle.std.proofs.Common.{sym, ap, ◌∙◌, ◌≡◌, ℕ, subst, arith}
use Rattle.sled_store.specs.In.{In}
use Rattle.sled_nodes.specs.Order.{Key}
use Rattle.tree_laws.specs.Forest.{later}
use Rattle.tree_check.proofs.Listed.{later_at}
use Rattle.tree_check.proofs.page.is_later.Goals as goal

pub returns-then-eq : goal.returns-then-eq
returns-then-eq c _ =
    let e : Key × ℕ = c.index-pointers-i.result in
    let same : e.1 ≡ c.args.child = grind (arith, c.if-eq.ensures, c.eq.ensures) in
    let i = later_at c.args.pointers.now c.loop-i.i e c.loop-i.invariant (omega (arith, c.loop-i-test.true, c.loop-i.auto.i-end)) in
    (e.0, subst (λ (z : Key × ℕ). In z (later c.args.pointers.now)) (sym c.index-pointers-i.is ∙ ap (λ z. (e.0, z)) same) i)
