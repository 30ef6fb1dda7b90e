use Rattle.std.proofs.Common.{sym, subst}
use Rattle.sled_nodes.proofs.Basics.{ok_weaker, err_weaker}
use Rattle.sled.specs.Reads.{ReadsMap}
use Rattle.sled.specs.Pops.{pages_of}
use Rattle.sled.specs.theory.Pops.{reads_of}
use Rattle.sled.proofs.Popping.{short_read}
use Rattle.sled.proofs.db.Db.pair_kept.Goals as goal

pub returns-in-Ok-clause-ok : goal.returns-in-Ok-clause-ok
returns-in-Ok-clause-ok g c = ok_weaker _ _ (λ all same. subst (λ z. ReadsMap g.P.Pages.store g.M.MergeOperator.meant c.args.self.now c.args.tree.now (λ map. reads_of c.args.side map z)) (sym same) c.in-Ok.ensures.ok) c.keep_pair.result c.keep_pair.ensures.same

pub returns-in-Ok-clause-err : goal.returns-in-Ok-clause-err
returns-in-Ok-clause-err g c = err_weaker _ _ (λ e none. short_read g.P.Pages.store g.M.MergeOperator.meant _ _ _ c.in-Ok.ensures.ok (pages_of c.args.side) e none) c.keep_pair.result c.keep_pair.ensures.err
