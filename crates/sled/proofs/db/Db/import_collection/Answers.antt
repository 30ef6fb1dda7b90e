use Rattle.std.proofs.Common.{◌≡◌, [], length, IfErr, OnOk, subst}
use Rattle.sled_model.specs.Imports.{puts_of}
use Rattle.sled_model.specs.declared.call.Whole.TheVariants.{OpenTree}
use Rattle.sled_model.specs.declared.reply.Reply.TheVariants as told
use Rattle.sled.specs.Direct.{WholeDecided, WholeRefused}
use Rattle.sled.specs.Opens.{OpensBySteps, OpenRefusedBySteps}
use Rattle.sled.specs.Parts.{told_parts}
use Rattle.sled.specs.theory.Imports.{PartsDone, PartsStoppedAfter}
use Rattle.sled.proofs.Importing.{collection_done, collection_stopped, collection_told, collection_unopened, opened_now}
use Rattle.sled.proofs.db.Db.import_collection.Goals as goal

pub returns-in-Err-clause-err : goal.returns-in-Err-clause-err
returns-in-Err-clause-err g c =
    collection_unopened g.P.Pages.store g.M.MergeOperator.meant _ _ _ _ _
    (subst (λ n. WholeRefused g.P.Pages.store g.M.MergeOperator.meant c.args.self.now (OpenTree n) c.in-Err.e c.open_tree.new.self) c.as_slice.ensures.value c.in-Err.ensures.err)
    (subst (λ n. OpenRefusedBySteps g.P.Pages.store n c.args.self.now c.in-Err.e c.open_tree.new.self) c.as_slice.ensures.value c.in-Err.ensures.refused)

pub import_pairs-done-requires-after_bounds : goal.import_pairs-done-requires-after_bounds
import_pairs-done-requires-after_bounds g c κs within = opened_now g.P.Pages.store g.M.MergeOperator.meant c.args.self.now _ _ _ c.in-Ok.ensures.ok

pub returns-clause-ok : goal.returns-clause-ok
returns-clause-ok g c =
    collection_done g.P.Pages.store g.M.MergeOperator.meant c.args.self.now c.open_tree.new.self c.import_pairs-done.new.self c.args.collection.now.1.items c.in-Ok.tree
    (subst (λ n. WholeDecided g.P.Pages.store g.M.MergeOperator.meant c.args.self.now (OpenTree n) (told.Tree c.in-Ok.tree) c.open_tree.new.self) c.as_slice.ensures.value c.in-Ok.ensures.ok)
    (subst (λ n. OpensBySteps g.P.Pages.store n c.args.self.now c.open_tree.new.self) c.as_slice.ensures.value c.in-Ok.ensures.steps)
    c.audit.ensures.sound c.args.collection.now.2.items c.import_pairs-done.result.0
    (subst (λ ps. OnOk c.import_pairs-done.result.0 (PartsDone g.P.Pages.store g.M.MergeOperator.meant c.open_tree.new.self (puts_of c.in-Ok.tree.name ps []) c.import_pairs-done.new.self)) c.as_slice-2.ensures.value c.import_pairs-done.ensures.ok)

pub returns-clause-err : goal.returns-clause-err
returns-clause-err g c =
    collection_stopped g.P.Pages.store g.M.MergeOperator.meant c.args.self.now c.open_tree.new.self c.import_pairs-done.new.self c.args.collection.now.1.items c.in-Ok.tree
    (subst (λ n. WholeDecided g.P.Pages.store g.M.MergeOperator.meant c.args.self.now (OpenTree n) (told.Tree c.in-Ok.tree) c.open_tree.new.self) c.as_slice.ensures.value c.in-Ok.ensures.ok)
    (subst (λ n. OpensBySteps g.P.Pages.store n c.args.self.now c.open_tree.new.self) c.as_slice.ensures.value c.in-Ok.ensures.steps)
    c.audit.ensures.sound c.args.collection.now.2.items c.import_pairs-done.result.1 c.saturating_add.result c.saturating_add.ensures c.import_pairs-done.result.0
    (subst (λ ps. IfErr c.import_pairs-done.result.0 (λ e. PartsStoppedAfter g.P.Pages.store g.M.MergeOperator.meant c.open_tree.new.self (puts_of c.in-Ok.tree.name ps []) c.import_pairs-done.result.1 e c.import_pairs-done.new.self)) c.as_slice-2.ensures.value c.import_pairs-done.ensures.err)

pub returns-clause-all : goal.returns-clause-all
returns-clause-all g c =
    collection_told g.P.Pages.store g.M.MergeOperator.meant c.args.self.now c.open_tree.new.self c.import_pairs-done.new.self c.args.collection.now.1.items c.in-Ok.tree
    (subst (λ n. WholeDecided g.P.Pages.store g.M.MergeOperator.meant c.args.self.now (OpenTree n) (told.Tree c.in-Ok.tree) c.open_tree.new.self) c.as_slice.ensures.value c.in-Ok.ensures.ok)
    (subst (λ n. OpensBySteps g.P.Pages.store n c.args.self.now c.open_tree.new.self) c.as_slice.ensures.value c.in-Ok.ensures.steps)
    c.audit.ensures.sound c.args.collection.now.2.items c.import_pairs-done.result.1 c.saturating_add.result c.saturating_add.ensures c.import_pairs-done.result.0
    (subst (λ ps. OnOk c.import_pairs-done.result.0 (c.import_pairs-done.result.1 ≡ told_parts (length (puts_of c.in-Ok.tree.name ps [])))) c.as_slice-2.ensures.value c.import_pairs-done.ensures.all)
