use Rattle.std.proofs.Common.{sym, refl, ◌∙◌, subst, Some, None}
use Rattle.sled_nodes.specs.Among.{bound_of}
use Rattle.tree_reads.specs.theory.Walk.{Turns}
use Rattle.tree_reads.proofs.Walking.{walk_first, walk_more, walk_ends, walk_lost, walk_refused}
use Rattle.tree_reads.proofs.walk.leaf_at.Goals as goal

pub loop-before-init : goal.loop-before-init
loop-before-init g c = walk_first _ _ _ _ c.law_given.ensures c.requires

pub returns-in-Ok-None-clause-gives_up : goal.returns-in-Ok-None-clause-gives_up
returns-in-Ok-None-clause-gives_up g c = record { is = walk_lost _ _ _ _ _ _ c.loop-before.invariant (sym c.in-Ok-None.field-0-is ∙ c.in-Ok-None.ensures.ok) }

pub returns-in-None-clause-ok : goal.returns-in-None-clause-ok
returns-in-None-clause-ok g c = walk_ends _ _ _ _ _ _ c.loop-before.invariant.goes _ _ (sym c.in-Ok-Some.field-0-is ∙ c.in-Ok-Some.ensures.ok) (subst (λ n. Turns (bound_of c.args.target) n None) c.deref.ensures c.in-None.ensures) refl

pub loop-before-preserved : goal.loop-before-preserved
loop-before-preserved g c = walk_more _ _ _ _ _ _ c.loop-before.invariant _ _ (sym c.in-Ok-Some.field-0-is ∙ c.in-Ok-Some.ensures.ok) (subst (λ n. Turns (bound_of c.args.target) n (Some c.in-Some.next)) c.deref.ensures c.in-Some.ensures)

pub returns-in-Err-clause-err : goal.returns-in-Err-clause-err
returns-in-Err-clause-err g c = walk_refused _ _ _ _ _ _ _ c.loop-before.invariant.goes _ c.in-Err.ensures.err
