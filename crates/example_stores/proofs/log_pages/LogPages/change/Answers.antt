use Rattle.std.proofs.Common.{refl}
use Rattle.example_stores.proofs.Logging.{change_given}
use Rattle.example_stores.proofs.log_pages.LogPages.change.Goals as goal

pub write-requires-clause-given : goal.write-requires-clause-given
write-requires-clause-given c = change_given c.args.self.now c.args.pid _ c.in_ok-node.node c.requires refl
