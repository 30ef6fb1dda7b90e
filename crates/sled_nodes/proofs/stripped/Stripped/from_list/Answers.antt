use Rattle.std.proofs.Common.{◌∙◌, ap}
use Rattle.sled_nodes.specs.Prefix.{behind}
use Rattle.sled_nodes.proofs.Prefixes.{behind_nothing}
use Rattle.sled_nodes.proofs.stripped.Stripped.from_list.Goals as goal

pub returns-then-count-eq0-clause-ok : goal.returns-then-count-eq0-clause-ok
returns-then-count-eq0-clause-ok g c = c.of_rests.ensures ∙ (ap (λ p. behind p c.args.list.items) c.empty.ensures ∙ behind_nothing c.args.list.items)
