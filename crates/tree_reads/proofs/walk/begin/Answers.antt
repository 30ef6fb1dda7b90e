use Rattle.std.proofs.Common.{subst, inr}
use Rattle.sled_nodes.specs.Among.{bound_of}
use Rattle.tree_reads.specs.theory.Walk.{GoesDown}
use Rattle.tree_reads.proofs.Walking.{last_in, less_in}
use Rattle.tree_reads.proofs.walk.begin.Goals as goal

pub returns-in-Some-down_from-clause-begins : goal.returns-in-Some-down_from-clause-begins
returns-in-Some-down_from-clause-begins c =
    let d = (subst (λ n. GoesDown (bound_of c.args.target) n c.down_from.result) c.deref-in-Some.ensures c.down_from.ensures).is c.in-Some-down_from.child c.in-Some-down_from.is in
    record { is = inr (c.in-Some.view.now, c.loop-view.invariant _ (last_in _ _ _ c.deref.ensures.value c.in-Some.ensures.value), d.0, d.1) }

pub loop-view-preserved : goal.loop-view-preserved
loop-view-preserved c = λ v i. c.loop-view.invariant v (less_in _ _ _ c.pop-passed.ensures.items v i)
