use Rattle.std.proofs.Common.{ap, sym, subst, ◌∙◌}
use Rattle.std.specs.List.{remove}
use Rattle.sled_nodes.specs.Prefix.{IsStripped}
use Rattle.sled_nodes.proofs.Changed.{removed_is}
use Rattle.sled_nodes.proofs.stripped.Stripped.remove_at.Goals as goal

pub invariant_of-self : goal.invariant_of-self
invariant_of-self g c = subst (λ l. IsStripped c.self.inside.prefix l) (ap (λ l. remove l c.args.i) c.as_slice.ensures ∙ sym c.remove.ensures) (c.apart_without.ensures c.if-apart_without.true c.self.inside.prefix)

pub returns-then-apart_without-clause-ok : goal.returns-then-apart_without-clause-ok
returns-then-apart_without-clause-ok g c = removed_is c.self.inside.prefix c.self.inside.rests c.args.self.now c.self.invariant c.self.view_is c.args.i c.remove.new.self c.remove.ensures
