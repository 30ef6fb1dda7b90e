use Rattle.sled.proofs.Popping.{clearing_first, clearing_ends, clearing_unread, clearing_untaken, clearing_more, clearing_smaller, clearing_unread_steps, clearing_untaken_steps, clearing_parts, clearing_parts_untaken}
use Rattle.sled.proofs.Mapping.{clear_changes}
use Rattle.std.proofs.Common.{Ok, Err}
use Rattle.sled.proofs.Clearing.{clear_counts, clear_refuses, clears_leave}
use Rattle.sled.proofs.db.Db.clear_counted.Goals as goal

pub parts-init : goal.parts-init
parts-init g c = clearing_first g.P.Pages.store g.M.MergeOperator.meant _ _

pub returns-in-Ok-None-clause-ok : goal.returns-in-Ok-None-clause-ok
returns-in-Ok-None-clause-ok g c = clearing_ends g.P.Pages.store g.M.MergeOperator.meant _ _ c.parts.self c.parts.invariant _ c.in-Ok-None.field-0-is c.in-Ok-None.ensures.ok

pub returns-in-Err-clause-err : goal.returns-in-Err-clause-err
returns-in-Err-clause-err g c = clearing_unread g.P.Pages.store g.M.MergeOperator.meant _ _ c.parts.self c.parts.invariant c.audit-in-parts.ensures.sound _ c.in-Err.ensures.err

pub parts-smaller : goal.parts-smaller
parts-smaller g c = clearing_smaller g.P.Pages.store g.M.MergeOperator.meant c.args.self.now c.args.tree.now c.parts.self c.parts.invariant _ _ c.in-Ok-Some.field-0-is c.in-Ok-Some.ensures.ok _ _ c.in-Ok.ensures.ok

pub parts-preserved : goal.parts-preserved
parts-preserved g c = clearing_more g.P.Pages.store g.M.MergeOperator.meant c.args.self.now c.args.tree.now c.parts.self c.parts.invariant _ _ c.in-Ok-Some.field-0-is c.in-Ok-Some.ensures.ok _ _ c.in-Ok.ensures.ok c.audit-in-parts.ensures.sound c.saturating_add-count.result c.saturating_add-count.ensures

pub returns-in-Err-point-clause-err : goal.returns-in-Err-point-clause-err
returns-in-Err-point-clause-err g c = clearing_untaken g.P.Pages.store g.M.MergeOperator.meant c.args.self.now c.args.tree.now c.parts.self c.parts.invariant _ _ c.in-Ok-Some.field-0-is c.in-Ok-Some.ensures.ok c.audit-in-parts.ensures.sound _ _ c.in-Err-point.ensures.err

pub returns-in-Ok-None-clause-steps : goal.returns-in-Ok-None-clause-steps
returns-in-Ok-None-clause-steps g c = c.parts.invariant.clears

pub returns-in-Err-clause-refused : goal.returns-in-Err-clause-refused
returns-in-Err-clause-refused g c = clearing_unread_steps g.P.Pages.store g.M.MergeOperator.meant _ _ c.parts.self c.parts.invariant _ c.in-Err.ensures.err

pub returns-in-Err-point-clause-refused : goal.returns-in-Err-point-clause-refused
returns-in-Err-point-clause-refused g c = clearing_untaken_steps g.P.Pages.store g.M.MergeOperator.meant c.args.self.now c.args.tree.now c.parts.self c.parts.invariant _ _ c.in-Ok-Some.field-0-is c.in-Ok-Some.ensures.ok _ _ c.in-Err-point.ensures.err

pub returns-in-Ok-None-clause-parts : goal.returns-in-Ok-None-clause-parts
returns-in-Ok-None-clause-parts g c = clearing_parts g.P.Pages.store g.M.MergeOperator.meant _ _ c.parts.self c.parts.invariant

pub returns-in-Err-clause-parts : goal.returns-in-Err-clause-parts
returns-in-Err-clause-parts g c = clearing_parts g.P.Pages.store g.M.MergeOperator.meant _ _ c.parts.self c.parts.invariant

pub returns-in-Err-point-clause-parts : goal.returns-in-Err-point-clause-parts
returns-in-Err-point-clause-parts g c = clearing_parts_untaken g.P.Pages.store g.M.MergeOperator.meant c.args.self.now c.args.tree.now c.parts.self c.parts.invariant _ _ c.in-Ok-Some.field-0-is c.in-Ok-Some.ensures.ok _ _ c.in-Err-point.ensures.err

pub returns-in-Ok-None-clause-changes : goal.returns-in-Ok-None-clause-changes
returns-in-Ok-None-clause-changes g c = clear_changes g.P.Pages.store g.M.MergeOperator.meant _ _ _ (returns-in-Ok-None-clause-ok g c)

pub returns-in-Ok-None-clause-counts : goal.returns-in-Ok-None-clause-counts
returns-in-Ok-None-clause-counts g c = clear_counts g.P.Pages.store g.M.MergeOperator.meant c.args.self.now c.audit.ensures.sound c.args.tree.now _ _ (returns-in-Ok-None-clause-parts g c) (returns-in-Ok-None-clause-ok g c)

pub returns-in-Ok-None-clause-leaves : goal.returns-in-Ok-None-clause-leaves
returns-in-Ok-None-clause-leaves g c = clears_leave g.P.Pages.store g.M.MergeOperator.meant c.args.self.now c.audit.ensures.sound c.args.tree.now _ (Ok _) (returns-in-Ok-None-clause-ok g c) tt

pub returns-in-Err-clause-refuses : goal.returns-in-Err-clause-refuses
returns-in-Err-clause-refuses g c = clear_refuses g.P.Pages.store g.M.MergeOperator.meant c.args.self.now c.audit.ensures.sound c.args.tree.now _ _ (returns-in-Err-clause-parts g c) _ (returns-in-Err-clause-err g c)

pub returns-in-Err-clause-leaves : goal.returns-in-Err-clause-leaves
returns-in-Err-clause-leaves g c = clears_leave g.P.Pages.store g.M.MergeOperator.meant c.args.self.now c.audit.ensures.sound c.args.tree.now _ (Err _) tt (returns-in-Err-clause-err g c)

pub returns-in-Err-point-clause-refuses : goal.returns-in-Err-point-clause-refuses
returns-in-Err-point-clause-refuses g c = clear_refuses g.P.Pages.store g.M.MergeOperator.meant c.args.self.now c.audit.ensures.sound c.args.tree.now _ _ (returns-in-Err-point-clause-parts g c) _ (returns-in-Err-point-clause-err g c)

pub returns-in-Err-point-clause-leaves : goal.returns-in-Err-point-clause-leaves
returns-in-Err-point-clause-leaves g c = clears_leave g.P.Pages.store g.M.MergeOperator.meant c.args.self.now c.audit.ensures.sound c.args.tree.now _ (Err _) tt (returns-in-Err-point-clause-err g c)
