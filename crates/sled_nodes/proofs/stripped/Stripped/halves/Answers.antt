use Rattle.std.proofs.Common.{◌/◌, length, ap, ◌∙◌}
use Rattle.sled_nodes.specs.Prefix.{prefix_of, behind}
use Rattle.sled_nodes.proofs.Changed.{taken_is, dropped_is, front_taken, rest_taken}
use Rattle.sled_nodes.proofs.stripped.Stripped.halves.Goals as goal

pub returns-in-Ok-clause-ok : goal.returns-in-Ok-clause-ok
returns-in-Ok-clause-ok g c = (
  c.in_ok-left.ensures.ok ∙ (ap (behind (prefix_of c.args.self.now)) (front_taken c.as_slice.result.now c.self.inside.rests (c.len-middle.result / 2) (length c.args.self.now / 2) c.as_slice.ensures (ap (λ n. n / 2) c.len-middle.ensures)) ∙ taken_is c.self.inside.prefix c.self.inside.rests c.args.self.now c.self.invariant c.self.view_is (length c.args.self.now / 2)),
  c.in-Ok.ensures.ok ∙ (ap (behind (prefix_of c.args.self.now)) (rest_taken c.as_slice-2.result.now c.self.inside.rests (c.len-middle.result / 2) (length c.args.self.now / 2) c.as_slice-2.ensures (ap (λ n. n / 2) c.len-middle.ensures)) ∙ dropped_is c.self.inside.prefix c.self.inside.rests c.args.self.now c.self.invariant c.self.view_is (length c.args.self.now / 2)),
)
