use Rattle.std.proofs.Common.{[], sym, refl, ◌∙◌}
use Rattle.sled.proofs.Conducting.{leaves_none}
use Rattle.sled.proofs.Removing.{not_default, is_default, numbered_as, open_as, untouched_as, refused_drop_as, dropped_as, dropped_db_as}
use Rattle.sled.proofs.Mapping.{drops_map}
use Rattle.sled.proofs.Keeping.{dropped_refuses, dropped_leaves}
use Rattle.sled.proofs.db.Db.drop_tree.Goals as goal

pub returns-then-in_group-clause-err : goal.returns-then-in_group-clause-err
returns-then-in_group-clause-err g c = untouched_as g.P.Pages.store g.M.MergeOperator.meant _ _ c.self.view_is c.self.invariant _ _ (sym c.in_group.ensures ∙ c.if-in_group.true, refl)

pub returns-then-eq-clause-err : goal.returns-then-eq-clause-err
returns-then-eq-clause-err g c = untouched_as g.P.Pages.store g.M.MergeOperator.meant _ _ c.self.view_is c.self.invariant _ _
    (open_as g.P.Pages.store g.M.MergeOperator.meant _ _ c.self.view_is c.self.invariant c.args.name.now (sym c.in_group.ensures ∙ c.if-in_group.false), refl, is_default _ _ _ c.eq.ensures c.if-eq.true c.as_bytes.ensures.value, refl)

pub returns-in-Err-clause-err : goal.returns-in-Err-clause-err
returns-in-Err-clause-err g c = refused_drop_as g.P.Pages.store g.M.MergeOperator.meant _ _ c.self.view_is c.self.invariant _ _
    (numbered_as _ _ _ _ _ c.number_of.ensures c.as_slice.ensures.value c.in-Some.is) (sym c.in_group.ensures ∙ c.if-in_group.false) (not_default _ _ _ c.eq.ensures c.if-eq.false c.as_bytes.ensures.value) _ _ c.in-Err.ensures.err

pub invariant_of-self-2 : goal.invariant_of-self-2
invariant_of-self-2 g c = dropped_db_as g.P.Pages.store g.M.MergeOperator.meant _ _ c.self.view_is c.self.invariant _ _
    (numbered_as _ _ _ _ _ c.number_of.ensures c.as_slice.ensures.value c.in-Some.is) (sym c.in_group.ensures ∙ c.if-in_group.false) (not_default _ _ _ c.eq.ensures c.if-eq.false c.as_bytes.ensures.value) _ _ _
    c.take_name.ensures c.take_operator.ensures c.in_default-drop_root.ensures.ok

pub returns-clause-ok : goal.returns-clause-ok
returns-clause-ok g c = dropped_as g.P.Pages.store g.M.MergeOperator.meant _ _ c.self.view_is c.self.invariant _ _
    (numbered_as _ _ _ _ _ c.number_of.ensures c.as_slice.ensures.value c.in-Some.is) (sym c.in_group.ensures ∙ c.if-in_group.false) (not_default _ _ _ c.eq.ensures c.if-eq.false c.as_bytes.ensures.value) _ _ _
    c.take_name.ensures c.take_operator.ensures c.in_default-drop_root.ensures.ok

pub returns-clause-changes : goal.returns-clause-changes
returns-clause-changes g c = drops_map g.P.Pages.store g.M.MergeOperator.meant _ _ _ _ (returns-clause-ok g c)

pub returns-then-in_group-clause-refuses : goal.returns-then-in_group-clause-refuses
returns-then-in_group-clause-refuses g c = dropped_refuses g.P.Pages.store g.M.MergeOperator.meant _ _ _ _ (returns-then-in_group-clause-err g c)

pub returns-then-in_group-clause-stays : goal.returns-then-in_group-clause-stays
returns-then-in_group-clause-stays g c = (returns-then-in_group-clause-err g c).leaves

pub returns-then-eq-clause-refuses : goal.returns-then-eq-clause-refuses
returns-then-eq-clause-refuses g c = dropped_refuses g.P.Pages.store g.M.MergeOperator.meant _ _ _ _ (returns-then-eq-clause-err g c)

pub returns-then-eq-clause-stays : goal.returns-then-eq-clause-stays
returns-then-eq-clause-stays g c = (returns-then-eq-clause-err g c).leaves

pub returns-in-Err-clause-refuses : goal.returns-in-Err-clause-refuses
returns-in-Err-clause-refuses g c = dropped_refuses g.P.Pages.store g.M.MergeOperator.meant _ _ _ _ (returns-in-Err-clause-err g c)

pub returns-in-Err-clause-stays : goal.returns-in-Err-clause-stays
returns-in-Err-clause-stays g c = (returns-in-Err-clause-err g c).leaves

pub returns-clause-leaves : goal.returns-clause-leaves
returns-clause-leaves g c = dropped_leaves g.P.Pages.store g.M.MergeOperator.meant _ _ _ _ (returns-clause-ok g c)

pub returns-in_default-clause-leaves : goal.returns-in_default-clause-leaves
returns-in_default-clause-leaves g c = record { maps = []; each = λ m i. absurd i; leaves = leaves_none g.P.Pages.store g.M.MergeOperator.meant _ }
