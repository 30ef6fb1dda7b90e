use Rattle.std.proofs.Common.{subst, IfSome}
use Rattle.sled_nodes.specs.Order.{key_cmp}
use Rattle.sled_nodes.specs.theory.Stripped.{IsRest}
use Rattle.sled_nodes.proofs.Changed.{put_stays, put_is}
use Rattle.sled_nodes.proofs.stripped.Stripped.put.Goals as goal

pub invariant_of-self : goal.invariant_of-self
invariant_of-self g c = put_stays c.self.inside.prefix c.self.inside.rests c.args.self.now c.self.invariant c.self.view_is c.args.key.now c.in-Ok-Some.rest (subst (λ o. IfSome o (IsRest c.args.self.now c.args.key.now)) c.in-Ok-Some.field-0-is c.in-Ok-Some.ensures.ok) c.args.value c.put.new.self c.put.result c.put.ensures.ok c.put.ensures.err

pub returns-in-Ok-Some-clause-ok : goal.returns-in-Ok-Some-clause-ok
unfolding key_cmp
returns-in-Ok-Some-clause-ok g c = put_is c.self.inside.prefix c.self.inside.rests c.args.self.now c.self.invariant c.self.view_is c.args.key.now c.in-Ok-Some.rest (subst (λ o. IfSome o (IsRest c.args.self.now c.args.key.now)) c.in-Ok-Some.field-0-is c.in-Ok-Some.ensures.ok) c.args.value c.put.new.self c.put.result c.put.ensures.ok
