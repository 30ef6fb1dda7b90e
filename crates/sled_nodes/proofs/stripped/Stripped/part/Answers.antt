use Rattle.std.proofs.Common.{◌≡◌, ap, subst, sym, IfOk}
use Rattle.sled_nodes.specs.Prefix.{behind}
use Rattle.sled_nodes.proofs.Changed.{prefix_here}
use Rattle.sled_nodes.proofs.stripped.Stripped.part.Goals as goal

pub returns-clause-ok : goal.returns-clause-ok
returns-clause-ok g c = subst (λ l. IfOk c.strip.result (λ made. made ≡ l)) (ap (λ q. behind q c.args.rests.now) (sym (prefix_here c.self.inside.prefix c.self.inside.rests c.args.self.now c.self.invariant c.self.view_is))) c.strip.ensures.ok
