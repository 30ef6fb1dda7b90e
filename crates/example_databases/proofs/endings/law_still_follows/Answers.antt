use Rattle.example_databases.proofs.Following.{still_follows}
use Rattle.example_databases.proofs.endings.law_still_follows.Goals as goal

pub returns : goal.returns
returns c = still_follows
