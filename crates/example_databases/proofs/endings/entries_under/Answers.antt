use Rattle.example_databases.proofs.Following.{copies_scan}
use Rattle.example_databases.proofs.endings.entries_under.Goals as goal

pub returns-in-Ok-filled : goal.returns-in-Ok-filled
returns-in-Ok-filled g c = copies_scan _ _ _ _ _ _ _ _ c.in-Ok.ensures.ok c.in-Ok-pairs.ensures.all c.in-Ok-pairs.ensures.bytes c.in-Ok-filled.ensures
