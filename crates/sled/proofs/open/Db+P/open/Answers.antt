use Rattle.std.proofs.Common.{◌∙◌, refl}
use Rattle.sled.proofs.Opening.{refused, no_memory, has_default, refused_default, opened_db, opens}
use Rattle.sled.proofs.open.Db+P.open.Goals as goal

pub returns-in-Err-flush-clause-err : goal.returns-in-Err-flush-clause-err
returns-in-Err-flush-clause-err g c = let h = has_default _ c.as_bytes.ensures.value c.in_default.ensures.ok in refused _ _ _ _ _ h.again h.faults c.in-Err-flush.ensures.err

pub invariant_of-result : goal.invariant_of-result
invariant_of-result g c = opened_db _ c.in-Ok.ensures.ok g.P.Pages.store _ refl (c.len-trees_given.ensures ∙ c.in-Ok.trees.ok.0) c.new.ensures.items c.new-2.ensures c.mark-greatest_id.ensures c.law_given.ensures _ (has_default _ c.as_bytes.ensures.value c.in_default.ensures.ok) c.in_default-flush.ensures.ok

pub returns-clause-ok : goal.returns-clause-ok
returns-clause-ok g c = opens _ _ _ _ _ (has_default _ c.as_bytes.ensures.value c.in_default.ensures.ok) c.in-Ok.ensures.ok c.in_default-flush.ensures.ok (c.len-trees_given.ensures ∙ c.in-Ok.trees.ok.0) c.mark-greatest_id.ensures c.new.ensures.items c.new-2.ensures c.in-Ok-from_slice.ensures.ok

pub returns-in-Err-clause-err : goal.returns-in-Err-clause-err
returns-in-Err-clause-err g c = refused_default _ c.as_bytes.ensures.value c.in-Err.ensures.err

pub returns-in-Err-number_trees-clause-err : goal.returns-in-Err-number_trees-clause-err
returns-in-Err-number_trees-clause-err g c = let h = has_default _ c.as_bytes.ensures.value c.in_default.ensures.ok in no_memory _ _ _ _ c.in-Err-number_trees.ensures.err h.again h.faults

pub returns-in-Err-from_slice-clause-err : goal.returns-in-Err-from_slice-clause-err
returns-in-Err-from_slice-clause-err g c = let h = has_default _ c.as_bytes.ensures.value c.in_default.ensures.ok in no_memory _ _ _ _ c.in-Err-from_slice.ensures.err h.again h.faults
