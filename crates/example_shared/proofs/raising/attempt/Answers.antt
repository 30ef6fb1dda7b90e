use Rattle.example_shared.proofs.Attempts.{raises_on}
use Rattle.example_shared.proofs.raising.attempt.Goals as goal

pub returns-clause-made : goal.returns-clause-made
returns-clause-made g c = raises_on c.args.tree.now c.args.key.now _ _ _ _ c.in-Ok.ensures.made c.swap_next-raised.ensures.made
