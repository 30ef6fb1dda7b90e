use Rattle.std.proofs.Common.{refl}
use Rattle.std.specs.declared.ops.Bound.TheVariants.{Unbounded}
use Rattle.sled_nodes.specs.Among.{bound_of}
use Rattle.tree_reads.proofs.Ranging.{tested, advance_none, advance_beyond, advance_one, advance_kept}
use Rattle.tree_reads.proofs.Stepping.{behind_found, where_it_was, ends_at}
use Rattle.tree_reads.proofs.cursor.search.Goals as goal

pub returns-in-Ok-None-clause-ok : goal.returns-in-Ok-None-clause-ok
returns-in-Ok-None-clause-ok g c = where_it_was _ c.args.cursor.now.lo (bound_of c.args.hi) c.first_at.new.hand c.first_at.new.near c.args.cursor.now.end c.requires.end
    (advance_none _ _ c.law_given.ensures c.requires.root _ _ _ c.lend_bound.ensures _ c.in-Ok-None.ensures.ok c.in-Ok-None.field-0-is)

pub returns-then-not-is_up_to-clause-ok : goal.returns-then-not-is_up_to-clause-ok
returns-then-not-is_up_to-clause-ok g c = where_it_was _ c.args.cursor.now.lo (bound_of c.args.hi) c.first_at.new.hand c.first_at.new.near c.args.cursor.now.end c.requires.end
    (advance_beyond _ _ c.law_given.ensures c.requires.root _ _ _ c.lend_bound.ensures _ c.in-Ok-Some.ensures.ok _ c.in-Ok-Some.field-0-is (tested _ _ _ _ _ _ c.is_up_to.ensures refl c.as_ref.ensures c.if-not-is_up_to.true))

pub returns-clause-ok : goal.returns-clause-ok
returns-clause-ok g c = advance_one _ _ c.law_given.ensures c.requires.root _ _ _ c.lend_bound.ensures _ c.in-Ok-Some.ensures.ok _ c.in-Ok-Some.field-0-is (tested _ _ _ _ _ _ c.is_up_to.ensures refl c.as_ref.ensures c.if-not-is_up_to.false) _
    (behind_found c.args.cursor.now.lo c.first_at.new.hand c.first_at.new.near _ _ c.in-Ok-Some.field-0-is c.in-Ok-Some.ensures.place)

pub returns-clause-kept : goal.returns-clause-kept
returns-clause-kept g c = advance_kept _ _ c.law_given.ensures c.requires.root _ Unbounded _ c.lend_bound.ensures _ c.in-Ok-Some.ensures.ok _ c.in-Ok-Some.field-0-is _ c.first_at.ensures.kept _
    (behind_found c.args.cursor.now.lo c.first_at.new.hand c.first_at.new.near _ _ c.in-Ok-Some.field-0-is c.in-Ok-Some.ensures.place)

pub returns-clause-end : goal.returns-clause-end
returns-clause-end g c = record { is = ends_at _ _ c.law_given.ensures c.requires.root _ _ c.first_at.new.hand c.count_up_to.result c.first_at.ensures.kept c.count_up_to.ensures }
