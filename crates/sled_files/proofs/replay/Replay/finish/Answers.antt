use Rattle.std.proofs.Common.{arith}
use Rattle.sled_pages.specs.Memory.{store_of}
use Rattle.sled_pages.specs.Rebuild.{rebuilt_of}
use Rattle.sled_files.proofs.Finishing.{are_below, not_pids, not_versions, reopened}
use Rattle.sled_files.proofs.replay.Replay.finish.Goals as goal
use Rattle.sled_files.proofs.replay.Replay.finish.Goals.{then-greatest-saturating_sub-via-then-greatest-saturating_sub, then-greatest-saturating_sub-via-else-greatest-saturating_sub+then-given-versions}

pub returns-then-greatest-saturating_sub-clause-reopened : goal.returns-then-greatest-saturating_sub-clause-reopened
returns-then-greatest-saturating_sub-clause-reopened c whole =
    let self = c.args.self in
    let n = c.numbers_given-greatest in
    elim c.then-greatest-saturating_sub.branch [
      | then-greatest-saturating_sub-via-then-greatest-saturating_sub w ↦
          not_pids (rebuilt_of self.rebuild) self.pids self.versions self.mark n.result.0 n.result.1 (store_of c.finish-pages.result) c.finish-pages.ensures.is n.ensures.pids n.ensures.versions self.in_group (omega arith) whole.below
      | then-greatest-saturating_sub-via-else-greatest-saturating_sub+then-given-versions w ↦
          not_versions (rebuilt_of self.rebuild) self.pids self.versions self.mark n.result.0 n.result.1 (store_of c.finish-pages.result) c.finish-pages.ensures.is n.ensures.pids n.ensures.versions self.in_group (omega arith) whole.below
    ]

pub returns-clause-reopened : goal.returns-clause-reopened
returns-clause-reopened c =
    let self = c.args.self in
    let n = c.numbers_given-greatest in
    let below =
    are_below (rebuilt_of self.rebuild) self.pids self.versions self.mark n.result.0 n.result.1 (store_of c.finish-pages.result) c.finish-pages.ensures.is n.ensures.pids n.ensures.versions self.in_group (omega arith) (omega arith) in
    (record { sealed = c.if-in_group.false; fits = omega arith; below = below }, reopened (rebuilt_of self.rebuild) self.in_group self.pids self.versions self.mark (store_of c.finish-pages.result) c.finish-pages.ensures.is c.if-in_group.false below)
