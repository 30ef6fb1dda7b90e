use Rattle.std.proofs.Common.{refl}
use Rattle.std.specs.declared.ops.Bound.TheVariants.{Unbounded}
use Rattle.tree_reads.proofs.Ranging.{tested_from, retreat_none, retreat_before, retreat_one, retreat_kept}
use Rattle.tree_reads.proofs.iter.last_within.Goals as goal

pub returns-in-Ok-None-clause-ok : goal.returns-in-Ok-None-clause-ok
returns-in-Ok-None-clause-ok g c = retreat_none _ _ c.law_given.ensures c.requires.root _ _ _ c.lend_bound.ensures _ c.in-Ok-None.ensures.ok c.in-Ok-None.field-0-is

pub returns-then-not-is_from-clause-ok : goal.returns-then-not-is_from-clause-ok
returns-then-not-is_from-clause-ok g c = retreat_before _ _ c.law_given.ensures c.requires.root _ _ _ c.lend_bound.ensures _ c.in-Ok-Some.ensures.ok _ c.in-Ok-Some.field-0-is (tested_from _ _ _ _ _ _ c.is_from.ensures refl c.as_ref.ensures c.if-not-is_from.true)

pub returns-in-Ok-clause-ok : goal.returns-in-Ok-clause-ok
returns-in-Ok-clause-ok g c = retreat_one _ _ c.law_given.ensures c.requires.root _ _ _ c.lend_bound.ensures _ c.in-Ok-Some.ensures.ok _ c.in-Ok-Some.field-0-is (tested_from _ _ _ _ _ _ c.is_from.ensures refl c.as_ref.ensures c.if-not-is_from.false) _ c.in-Ok.ensures.ok

pub returns-in-Ok-clause-kept : goal.returns-in-Ok-clause-kept
returns-in-Ok-clause-kept g c = retreat_kept _ _ c.law_given.ensures c.requires.root Unbounded _ _ c.lend_bound.ensures _ c.in-Ok-Some.ensures.ok _ c.in-Ok-Some.field-0-is _ c.last_at.ensures.kept _ c.in-Ok.ensures.ok
