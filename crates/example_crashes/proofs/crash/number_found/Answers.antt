use Rattle.std.proofs.Common.{◌∙◌, ap}
use Rattle.sled_pages.specs.Memory.{store_of}
use Rattle.example_crashes.specs.Crashing.{number_stored}
use Rattle.example_crashes.proofs.Finding.{ok_is, opened_name, opened_same}
use Rattle.example_crashes.proofs.crash.number_found.Goals as goal

pub returns-in-Ok-clause-before : goal.returns-in-Ok-clause-before
returns-in-Ok-clause-before g c =
    ok_is c.number_of-number.result (number_stored (store_of c.open_tree.new.self.pages) c.in-Ok.tree.name c.args.key.now) (number_stored (store_of c.args.db.now.pages) c.args.name.now c.args.key.now)
    (ap (λ t. number_stored (store_of c.open_tree.new.self.pages) t c.args.key.now) (opened_name store_of g.M.MergeOperator.meant c.args.db.now c.open_tree.new.self c.args.name.now c.in-Ok.tree c.in-Ok.ensures.ok)
    ∙ opened_same store_of g.M.MergeOperator.meant c.args.db.now c.open_tree.new.self c.args.name.now c.args.key.now c.audit.ensures.sound c.audit-in-Ok.ensures.sound c.in-Ok.ensures.changes) c.number_of-number.ensures

pub returns-in-Ok-clause-after : goal.returns-in-Ok-clause-after
returns-in-Ok-clause-after g c =
    ok_is c.number_of-number.result (number_stored (store_of c.open_tree.new.self.pages) c.in-Ok.tree.name c.args.key.now) (number_stored (store_of c.open_tree.new.self.pages) c.args.name.now c.args.key.now)
    (ap (λ t. number_stored (store_of c.open_tree.new.self.pages) t c.args.key.now) (opened_name store_of g.M.MergeOperator.meant c.args.db.now c.open_tree.new.self c.args.name.now c.in-Ok.tree c.in-Ok.ensures.ok)) c.number_of-number.ensures
