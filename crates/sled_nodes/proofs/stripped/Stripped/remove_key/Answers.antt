use Rattle.std.proofs.Common.{◌≡◌, subst, sym, OnOk}
use Rattle.sled_nodes.specs.Order.{key_cmp}
use Rattle.sled_nodes.proofs.Changed.{out_at}
use Rattle.sled_nodes.proofs.stripped.Stripped.remove_key.Goals as goal

pub returns-in-Some-Some-clause-ok : goal.returns-in-Some-Some-clause-ok
unfolding key_cmp
returns-in-Some-Some-clause-ok g c = subst (λ l. OnOk c.remove_at.result (c.remove_at.new.self ≡ l)) (sym (out_at c.args.key.now c.as_ref.result.now c.args.self.now c.in-Some-Some.field-0 c.in-Some-Some.i c.as_ref.ensures c.in-Some-Some.field-0-is c.in-Some-Some.ensures)) c.remove_at.ensures.ok
