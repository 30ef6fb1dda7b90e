use Rattle.std.proofs.Common.{◌++◌, ap, sym, ◌∙◌, rules}
use Rattle.sled_nodes.specs.Prefix.{prefix_of}
use Rattle.sled_nodes.proofs.Changed.{prefix_here, some_now}
use Rattle.sled_nodes.proofs.stripped.Stripped.rest.Goals as goal

pub returns-in_ok-from_slice-in-Some-clause-ok : goal.returns-in_ok-from_slice-in-Some-clause-ok
returns-in_ok-from_slice-in-Some-clause-ok g c = record {
  some = some_now c.self.inside.prefix c.self.inside.rests c.args.self.now c.self.invariant c.self.view_is (search rules);
  is = sym c.as_ref.ensures ∙ (c.in-Some.ensures ∙ (ap (λ q. q ++ c.in-Some.rest.now) (sym (prefix_here c.self.inside.prefix c.self.inside.rests c.args.self.now c.self.invariant c.self.view_is)) ∙ ap (λ r. prefix_of c.args.self.now ++ r) (sym c.in_ok-from_slice-in-Some.ensures.ok)));
}

pub returns-then-is_nothing-clause-ok : goal.returns-then-is_nothing-clause-ok
returns-then-is_nothing-clause-ok g c = record {
  some = some_now c.self.inside.prefix c.self.inside.rests c.args.self.now c.self.invariant c.self.view_is (search rules);
  is = ap (λ q. q ++ c.args.key.now) (sym (prefix_here c.self.inside.prefix c.self.inside.rests c.args.self.now c.self.invariant c.self.view_is ∙ c.is_nothing.ensures c.if-is_nothing.true)) ∙ ap (λ r. prefix_of c.args.self.now ++ r) (sym c.in_ok-clone.ensures.ok);
}
