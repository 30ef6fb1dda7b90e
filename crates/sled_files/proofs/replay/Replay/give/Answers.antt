use Rattle.std.proofs.Common.{ap}
use Rattle.sled_files.proofs.Replaying.{durable_with}
use Rattle.sled_files.proofs.replay.Replay.give.Goals as goal

pub returns-in-Ok-clause-ok : goal.returns-in-Ok-clause-ok
returns-in-Ok-clause-ok c = ap (durable_with c.args.self.now.in_group c.args.self.now.mark c.args.self.now.pids c.args.self.now.versions) c.in-Ok.ensures.ok

pub returns-in-Err-clause-err : goal.returns-in-Err-clause-err
returns-in-Err-clause-err c = ap (durable_with c.args.self.now.in_group c.args.self.now.mark c.args.self.now.pids c.args.self.now.versions) c.in-Err.ensures.err
