use Rattle.std.proofs.Common.{◌+◌, ◌++◌, length, sym, ap, ◌∙◌, append-nil}
use Rattle.sled_queues.proofs.Beginning.{nothing_watched}
use Rattle.sled_queues.proofs.prefixes.find.Goals as goal

pub returns-in-None-clause-ok : goal.returns-in-None-clause-ok
returns-in-None-clause-ok c = sym (ap (λ l. c.args.found.now.items ++ l) (nothing_watched c.args.trees.now c.args.tree c.args.key.now (length c.args.key.now + 1) c.in-None.ensures.value) ∙ append-nil c.args.found.now.items)
