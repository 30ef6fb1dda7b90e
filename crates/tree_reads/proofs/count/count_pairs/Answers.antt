use Rattle.std.proofs.Common.{◌+◌, refl, sym, ◌∙◌, subst}
use Rattle.sled_store.specs.Store.{now}
use Rattle.tree_reads.specs.theory.Leaves.{Counts}
use Rattle.tree_reads.proofs.Seeking.{empty_least}
use Rattle.tree_reads.proofs.Counting.{count_first, count_ends, count_more, count_gone, count_refused}
use Rattle.tree_reads.proofs.count.count_pairs.Goals as goal

pub leaf_at-requires : goal.leaf_at-requires
leaf_at-requires g c = empty_least _

pub loop-count-init : goal.loop-count-init
loop-count-init g c = count_first _ _ _ _ c.law_given.ensures c.in-Ok.ensures.ok

pub returns-in_default-next-clause-ok : goal.returns-in_default-next-clause-ok
returns-in_default-next-clause-ok g c = count_ends _ _ _ _ _ c.loop-count.invariant _ c.deref.ensures _ c.in-Some.ensures _ c.deref-in-loop-count.ensures c.in_default-next.is

pub returns-in-Ok-None-clause-err : goal.returns-in-Ok-None-clause-err
returns-in-Ok-None-clause-err g c = record { is = (refl, count_gone _ _ _ _ _ c.loop-count.invariant _ c.deref-in-loop-count.ensures _ c.in-Some-next.is (sym c.in-Ok-None.field-0-is ∙ c.in-Ok-None.ensures.ok)) }

pub loop-count-preserved : goal.loop-count-preserved
loop-count-preserved g c = subst (λ v. Counts (now (g.R.Reads.store c.args.pages.now)) c.args.root v (c.loop-count.count + 1) c.in-Some.more) (sym c.replace-old.ensures.after)
    (count_more _ _ _ _ _ c.loop-count.invariant _ c.deref.ensures _ c.in-Some.ensures _ c.deref-in-loop-count.ensures _ _ c.in-Some-next.is (sym c.in-Ok-Some.field-0-is ∙ c.in-Ok-Some.ensures.ok))

pub returns-in-Err-page-clause-err : goal.returns-in-Err-page-clause-err
returns-in-Err-page-clause-err g c = count_refused _ _ _ _ _ c.loop-count.invariant _ c.deref-in-loop-count.ensures _ c.in-Some-next.is _ c.in-Err-page.ensures.err
