use Rattle.std.proofs.Common.{◌≡◌, ◌∙◌, ap, subst, IfOk}
use Rattle.sled_nodes.specs.Prefix.{behind}
use Rattle.sled_nodes.proofs.Prefixes.{behind_nothing}
use Rattle.sled_nodes.proofs.stripped.Stripped.from_pairs.Goals as goal

pub returns-clause-ok : goal.returns-clause-ok
returns-clause-ok g c = subst (λ es. IfOk c.strip-made.result (λ made. made ≡ es)) (ap (λ p. behind p c.args.pairs.now) c.empty-none.ensures ∙ behind_nothing c.args.pairs.now) c.strip-made.ensures.ok
