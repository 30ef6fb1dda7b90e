use Rattle.std.proofs.Common.{sym, subst, arith}
use Rattle.sled_nodes.specs.Among.{bound_of}
use Rattle.sled_store.specs.Store.{now}
use Rattle.tree_reads.specs.Leaves.{SeeksBack}
use Rattle.tree_reads.proofs.Backing.{found_back, ends_back, goes_back, above_empty, one_walk}
use Rattle.tree_reads.proofs.nearest.last_along.Goals as goal

pub returns-in-Ok-Some-clause-ok : goal.returns-in-Ok-Some-clause-ok
returns-in-Ok-Some-clause-ok g c = found_back _ _ _ _ _ c.loop-walk.invariant.0 _ c.deref.ensures _ c.in-Ok-Some.ensures.ok _ c.in-Ok-Some.field-0-is

pub returns-then-len-eq0-clause-ok : goal.returns-then-len-eq0-clause-ok
returns-then-len-eq0-clause-ok g c = ends_back _ _ _ _ _ c.loop-walk.invariant.0 _ c.deref.ensures _ c.in-Ok-None.ensures.ok c.in-Ok-None.field-0-is _ c.deref-in-loop-walk.ensures (omega arith)

pub leaf_at-requires : goal.leaf_at-requires
leaf_at-requires g c = above_empty _ _ _ _ c.deref-in-loop-walk.ensures c.deref-in-loop-walk-2.ensures c.as_ref.ensures (λ z. omega arith)

pub loop-walk-preserved : goal.loop-walk-preserved
loop-walk-preserved g c = (
  subst (λ v. SeeksBack (now (g.R.Reads.store c.args.pages.now)) c.args.root (bound_of c.args.hi) v c.in-Ok.found.1) (sym c.replace-old.ensures.after)
      (goes_back _ _ _ _ _ c.loop-walk.invariant.0 _ c.deref.ensures _ c.in-Ok-None.ensures.ok c.in-Ok-None.field-0-is _ c.deref-in-loop-walk-2.ensures _ c.as_ref.ensures _ _ c.in-Ok.ensures.ok),
  one_walk _ _ _ c.loop-walk.invariant.1 c.in-Ok.ensures.ok.more,
)
