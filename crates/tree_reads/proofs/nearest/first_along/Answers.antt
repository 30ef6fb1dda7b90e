use Rattle.std.proofs.Common.{◌+◌, refl, sym, ◌∙◌, subst}
use Rattle.sled_nodes.specs.Among.{bound_of}
use Rattle.sled_store.specs.Store.{now}
use Rattle.tree_reads.specs.Leaves.{Seeks}
use Rattle.tree_reads.proofs.Seeking.{found_here, ends_here, goes_on, gone_here, next_refused}
use Rattle.tree_reads.proofs.nearest.first_along.Goals as goal

pub returns-in-Ok-Some-clause-ok : goal.returns-in-Ok-Some-clause-ok
returns-in-Ok-Some-clause-ok g c = found_here _ _ _ _ _ c.loop-count.invariant _ c.deref.ensures _ c.in-Ok-Some.ensures.ok _ c.in-Ok-Some.field-0-is

pub returns-in_default-clause-ok : goal.returns-in_default-clause-ok
returns-in_default-clause-ok g c = ends_here _ _ _ _ _ c.loop-count.invariant _ c.deref.ensures _ c.in-Ok-None.ensures.ok c.in-Ok-None.field-0-is _ c.deref-in-loop-count.ensures c.in_default.is

pub returns-in-Ok-None-page-clause-err : goal.returns-in-Ok-None-page-clause-err
returns-in-Ok-None-page-clause-err g c = record { is = (refl, gone_here _ _ _ _ _ c.loop-count.invariant _ c.deref-in-loop-count.ensures _ c.in-Some.is (sym c.in-Ok-None-page.field-0-is ∙ c.in-Ok-None-page.ensures.ok)) }

pub loop-count-preserved : goal.loop-count-preserved
loop-count-preserved g c = subst (λ v. Seeks (now (g.R.Reads.store c.args.pages.now)) c.args.root (bound_of c.args.lo) v (c.loop-count.count + 1)) (sym c.replace-old.ensures.after)
    (goes_on _ _ _ _ _ c.loop-count.invariant _ c.deref.ensures _ c.in-Ok-None.ensures.ok c.in-Ok-None.field-0-is _ c.deref-in-loop-count.ensures _ _ c.in-Some.is (sym c.in-Ok-Some-page.field-0-is ∙ c.in-Ok-Some-page.ensures.ok))

pub returns-in-Err-page-clause-err : goal.returns-in-Err-page-clause-err
returns-in-Err-page-clause-err g c = next_refused _ _ _ _ _ c.loop-count.invariant _ c.deref-in-loop-count.ensures _ c.in-Some.is _ c.in-Err-page.ensures.err
