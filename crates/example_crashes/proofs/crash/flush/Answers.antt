use Rattle.sled_pages.specs.Memory.{store_of}
use Rattle.example_crashes.proofs.Finding.{same_trees}
use Rattle.example_crashes.proofs.crash.flush.Goals as goal

pub returns-in-Ok-clause-keeps : goal.returns-in-Ok-clause-keeps
returns-in-Ok-clause-keeps g c = same_trees store_of g.M.MergeOperator.meant c.args.db.now c.flush.new.self c.audit.ensures.sound c.audit-in-Ok.ensures.sound c.flush.ensures.keeps
