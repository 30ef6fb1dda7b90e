use Rattle.std.proofs.Common.{sym, ◌∙◌}
use Rattle.std.proofs.lemmas.Result.{IfOk-weaker}
use Rattle.tree_scans.proofs.Stepping.{pair_comes, end_comes}
use Rattle.tree_scans.proofs.scan.at_leaf.Goals as goal

pub returns-in-Some-2-clause-ok : goal.returns-in-Some-2-clause-ok
returns-in-Some-2-clause-ok c = pair_comes _ _ c.args.giving.now _ c.bounds_from-bounds.ensures _ _ _ c.in-Some.ensures.1 (rw c.deref.ensures at (sym c.in-Some-2.is ∙ c.in_ok-key.ensures.ok))

pub returns-in-None-clause-ok : goal.returns-in-None-clause-ok
returns-in-None-clause-ok c = IfOk-weaker c.at_end.result _ _ (λ next b. end_comes _ _ c.args.giving.now _ c.bounds_from-bounds.ensures next (rw c.deref.ensures at (sym c.in-None.is ∙ c.in_ok-key.ensures.ok)) b) (rw c.deref-in-None.ensures at c.at_end.ensures.ok)
