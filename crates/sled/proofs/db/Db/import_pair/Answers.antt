use Rattle.std.proofs.Common.{◌≡◌, is_some, refl, subst}
use Rattle.std.specs.FinMap.Entries.{find}
use Rattle.sled_nodes.specs.Order.{key_cmp}
use Rattle.sled.specs.Reads.{ReadsMap, GivesUpGet}
use Rattle.sled.proofs.Promising.{decided_of_parts, refused_of_parts}
use Rattle.sled.proofs.Importing.{put_present, put_unread, put_done, put_now, put_not, decided_of, refused_of}
use Rattle.sled.proofs.db.Db.import_pair.Goals as goal

pub returns-in-Ok-true-clause-err : goal.returns-in-Ok-true-clause-err
returns-in-Ok-true-clause-err g c = put_present g.P.Pages.store g.M.MergeOperator.meant _ _ c.requires _ _ _ refl c.in-Ok-true.field-0 c.in-Ok-true.field-0-test
    (subst (λ k. ReadsMap g.P.Pages.store g.M.MergeOperator.meant c.args.self.now c.args.tree.now (λ map. c.in-Ok-true.field-0 ≡ is_some (find key_cmp k map))) c.as_ref.ensures c.in-Ok-true.ensures.ok)

pub returns-in-Err-clause-err : goal.returns-in-Err-clause-err
returns-in-Err-clause-err g c = put_unread g.P.Pages.store g.M.MergeOperator.meant _ _ c.requires _ _ _ c.in-Err.ensures.err
    (subst (λ k. GivesUpGet g.P.Pages.store g.M.MergeOperator.meant c.args.self.now c.args.tree.now k c.in-Err.e) c.as_ref.ensures c.in-Err.ensures.gives_up)

pub returns-in-Ok-clause-ok : goal.returns-in-Ok-clause-ok
returns-in-Ok-clause-ok g c =
    put_done g.P.Pages.store g.M.MergeOperator.meant _ _ c.requires _ _ _ _ (decided_of g.P.Pages.store g.M.MergeOperator.meant c.args.self.now c.insert.new.self c.args.tree.now _ _ _ _ c.as_ref-2.ensures c.as_ref-3.ensures _ (decided_of_parts g.P.Pages.store g.M.MergeOperator.meant _ _ _ _ _ c.in-Ok.ensures.decides c.in-Ok.ensures.leaves c.in-Ok.ensures.steps))
    c.in-Ok-false.field-0 c.in-Ok-false.field-0-test (subst (λ k. ReadsMap g.P.Pages.store g.M.MergeOperator.meant c.args.self.now c.args.tree.now (λ map. c.in-Ok-false.field-0 ≡ is_some (find key_cmp k map))) c.as_ref.ensures c.in-Ok-false.ensures.ok)

pub returns-in-Ok-clause-now : goal.returns-in-Ok-clause-now
returns-in-Ok-clause-now g c = put_now g.P.Pages.store g.M.MergeOperator.meant _ _ c.requires _ _ _ _ (decided_of_parts g.P.Pages.store g.M.MergeOperator.meant _ _ _ _ _ c.in-Ok.ensures.decides c.in-Ok.ensures.leaves c.in-Ok.ensures.steps)

pub returns-in-Err-insert-clause-err : goal.returns-in-Err-insert-clause-err
returns-in-Err-insert-clause-err g c = put_not g.P.Pages.store g.M.MergeOperator.meant _ _ c.requires _ _ _
    c.in-Ok-false.field-0 c.in-Ok-false.field-0-test (subst (λ k. ReadsMap g.P.Pages.store g.M.MergeOperator.meant c.args.self.now c.args.tree.now (λ map. c.in-Ok-false.field-0 ≡ is_some (find key_cmp k map))) c.as_ref.ensures c.in-Ok-false.ensures.ok)
    _ (refused_of g.P.Pages.store g.M.MergeOperator.meant c.args.self.now c.insert.new.self c.args.tree.now _ _ _ _ c.as_ref-2.ensures c.as_ref-3.ensures _ (refused_of_parts g.P.Pages.store g.M.MergeOperator.meant _ _ _ _ _ c.in-Err-insert.ensures.refuses c.in-Err-insert.ensures.leaves c.in-Err-insert.ensures.stops c.in-Err-insert.ensures.gives_up))
