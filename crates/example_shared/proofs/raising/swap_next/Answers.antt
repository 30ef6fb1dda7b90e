use Rattle.std.proofs.Common.{rules, sym, subst}
use Rattle.example_shared.specs.Raising.{Raises}
use Rattle.example_shared.proofs.Attempts.{raises_swap}
use Rattle.example_shared.proofs.raising.swap_next.Goals as goal

pub returns-clause-made : goal.returns-clause-made
returns-clause-made g c =
    subst (λ n. Raises c.args.tree.now c.args.key.now n c.args.handle.now.made c.swap-came.new.handle.made) (sym c.told.ensures.wrote)
    (raises_swap c.args.tree.now c.args.key.now c.args.stood.now c.args.number c.requires (search rules) c.swap-came.result c.args.handle.now.made c.swap-came.new.handle.made c.swap-came.ensures.made)
