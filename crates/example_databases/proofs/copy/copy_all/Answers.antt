use Rattle.std.proofs.Common.{ap, ◌∙◌}
use Rattle.sled_model.specs.Collections.{contents_of}
use Rattle.example_databases.proofs.Copying.{all_copied}
use Rattle.example_databases.proofs.Keeping.{import_keeps}
use Rattle.example_databases.proofs.copy.copy_all.Goals as goal

pub returns-clause-copies : goal.returns-clause-copies
returns-clause-copies g c =
    all_copied g.P.Pages.store g.M.MergeOperator.meant g.Q.Pages.store g.N.MergeOperator.meant _ _ _ c.audit.ensures.sound c.audit.ensures.ascend _ (ap contents_of c.as_slice.ensures.value ∙ c.in-Ok.ensures.ok) c.import-done.result c.import-done.ensures.ok

pub returns-clause-keeps : goal.returns-clause-keeps
returns-clause-keeps g c = import_keeps g.Q.Pages.store g.N.MergeOperator.meant _ _ _ c.import-done.result c.import-done.ensures.ok c.import-done.ensures.err
