use Rattle.std.proofs.Common.{◌≡◌}
use Rattle.example_files.proofs.Found.{goes_on_from, is_valid, reopens}
use Rattle.example_files.proofs.reopening.reopen_db.Goals as goal

pub open-requires-clause-well : goal.open-requires-clause-well
open-requires-clause-well g c κs within =
    let is : c.pages.result.now ≡ c.args.db.now.pages = c.pages.ensures in
    is_valid (goes_on_from c.args.db.now is c.in-Ok.ensures.ok) c.audit.ensures.sound.safe

pub returns-in-Ok-open-clause-ok : goal.returns-in-Ok-open-clause-ok
returns-in-Ok-open-clause-ok g c =
    let is : c.pages.result.now ≡ c.args.db.now.pages = c.pages.ensures in
    reopens c.args.name.now c.args.db.now c.in-Ok.pages c.in-Ok-open.db c.with_operators.result c.audit.ensures.sound (goes_on_from c.args.db.now is c.in-Ok.ensures.ok) c.in-Ok-open.ensures.ok c.with_operators.ensures
