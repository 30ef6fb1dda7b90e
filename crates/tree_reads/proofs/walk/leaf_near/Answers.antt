use Rattle.std.proofs.Common.{sym, refl, ◌∙◌, subst, Some, None, ◌+◌}
use Rattle.std.specs.declared.ops.Bound.TheVariants.{Included}
use Rattle.tree_reads.specs.theory.Walk.{Turns}
use Rattle.tree_reads.proofs.Seeking.{empty_least}
use Rattle.tree_reads.proofs.Walking.{goes_on, goes_more, way_kept, way_less, walk_ends, walk_refused}
use Rattle.tree_reads.proofs.walk.leaf_near.Goals as goal

pub loop-looked-init : goal.loop-looked-init
loop-looked-init g c = (goes_on _ _ _ _ _ c.law_given.ensures (empty_least _) c.requires c.begin-pid.ensures.begins, way_less _ _ _ _ c.requires c.begin-pid.ensures.keeps)

pub returns-in-None-clause-ok : goal.returns-in-None-clause-ok
returns-in-None-clause-ok g c = record {
  looked = c.loop-looked.looked + 1;
  is = walk_ends _ _ _ _ _ _ c.loop-looked.invariant.0 _ _ (sym c.in-Ok-Some.field-0-is ∙ c.in-Ok-Some.ensures.ok) (subst (λ n. Turns (Included c.args.key.now) n None) c.deref.ensures c.in-None.ensures) refl;
}

pub loop-looked-preserved : goal.loop-looked-preserved
loop-looked-preserved g c =
    let read = sym c.in-Ok-Some.field-0-is ∙ c.in-Ok-Some.ensures.ok in (
      goes_more _ _ _ _ _ _ c.loop-looked.invariant.0 _ _ read (subst (λ n. Turns (Included c.args.key.now) n (Some c.in-Some.next)) c.deref.ensures c.in-Some.ensures),
      way_kept _ _ _ _ _ c.loop-looked.invariant.0 _ _ _ read c.loop-looked.invariant.1 c.keep.ensures.keeps,
    )

pub returns-in_err-keep-clause-way : goal.returns-in_err-keep-clause-way
returns-in_err-keep-clause-way g c = way_kept _ _ _ _ _ c.loop-looked.invariant.0 _ _ _ (sym c.in-Ok-Some.field-0-is ∙ c.in-Ok-Some.ensures.ok) c.loop-looked.invariant.1 c.keep.ensures.keeps

pub returns-in-Err-clause-err : goal.returns-in-Err-clause-err
returns-in-Err-clause-err g c = walk_refused _ _ _ _ _ _ _ c.loop-looked.invariant.0 _ c.in-Err.ensures.err
