use Rattle.std.proofs.Common.{ap, sym, ◌∙◌}
use Rattle.sled_bytes.specs.declared.change.Change.{Change}
use Rattle.sled_files.specs.Change.{changed}
use Rattle.sled_files.specs.theory.Replay.{replayed_of}
use Rattle.sled_files.proofs.Replaying.{durable_with}
use Rattle.sled_files.proofs.replay.Replay.apply.Goals as goal

pub returns-in-Freed-clause-ok : goal.returns-in-Freed-clause-ok
returns-in-Freed-clause-ok c =
    ap (durable_with c.args.self.now.in_group c.args.self.now.mark c.args.self.now.pids c.args.self.now.versions) c.free.ensures
    ∙ ap (λ (change : Change). changed change (replayed_of c.args.self.now)) (sym c.in-Freed.is)
