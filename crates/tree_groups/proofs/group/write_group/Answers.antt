use Rattle.std.proofs.Common.{rules, sym, eqb-true}
use Rattle.std.proofs.lemmas.Bool.{eqb-false}
use Rattle.tree_groups.proofs.Grouping.{no_writes, some_jobs, group_of_none, group_not_begun, group_refused, group_open, group_ends, group_stays_open}
use Rattle.tree_groups.proofs.group.write_group.Goals as goal

pub returns-then-is_empty-clause-ok : goal.returns-then-is_empty-clause-ok
returns-then-is_empty-clause-ok g c = group_of_none _ _ (no_writes c.args.writes.now _ (search rules) (eqb-true _ 0 (sym c.if-is_empty.ensures))) c.requires.outside

pub returns-in-Err-clause-err : goal.returns-in-Err-clause-err
returns-in-Err-clause-err g c = group_not_begun _ _ _ _ (some_jobs c.args.writes.now _ (search rules) (eqb-false _ 0 (sym c.if-is_empty.ensures))) c.in-Err.ensures.err.is

pub returns-in-Err-write_all-clause-err : goal.returns-in-Err-write_all-clause-err
returns-in-Err-write_all-clause-err g c = group_refused _ (some_jobs c.args.writes.now _ (search rules) (eqb-false _ 0 (sym c.if-is_empty.ensures))) _ _ c.in_default.ensures.ok _ _ c.in-Err-write_all.ensures.err

pub seal_group-requires : goal.seal_group-requires
seal_group-requires g c = group_open _ _ _ _ c.in_default.ensures.ok c.in_default-write_all.ensures.ok

pub returns-clause-ok : goal.returns-clause-ok
returns-clause-ok g c = group_ends _ (some_jobs c.args.writes.now _ (search rules) (eqb-false _ 0 (sym c.if-is_empty.ensures))) _ _ c.in_default.ensures.ok _ c.in_default-write_all.ensures.ok _ _ c.seal_group.ensures.ok

pub returns-clause-err : goal.returns-clause-err
returns-clause-err g c = group_stays_open _ (some_jobs c.args.writes.now _ (search rules) (eqb-false _ 0 (sym c.if-is_empty.ensures))) _ _ c.in_default.ensures.ok _ c.in_default-write_all.ensures.ok _ _ c.seal_group.ensures.err
