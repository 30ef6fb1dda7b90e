use Rattle.std.proofs.Common.{rules}
use Rattle.example_shared.proofs.RaisingOnce.{added, not_added}
use Rattle.example_shared.proofs.adding.raise_at_once.Goals as goal

pub returns-clause-ok : goal.returns-clause-ok
returns-clause-ok g c = added g.P.Pages.store g.M.MergeOperator.meant _ _ _ c.args.tree.now c.args.key.now c.law_shows.ensures.tree (λ shown left answer k. search rules) c.transaction.result c.args.handle.now.made c.transaction.new.self.made c.transaction.ensures.made

pub returns-clause-err : goal.returns-clause-err
returns-clause-err g c = not_added g.P.Pages.store g.M.MergeOperator.meant _ _ _ c.args.tree.now c.args.key.now c.law_shows.ensures.tree (λ shown left answer k. search rules) c.transaction.result c.args.handle.now.made c.transaction.new.self.made c.transaction.ensures.made
