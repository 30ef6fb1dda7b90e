use Rattle.std.proofs.Common.{arith}
use Rattle.std.proofs.lemmas.List.{drop_all}
use Rattle.sled_files.proofs.Replaying.{reads_none, reads_one, reads_end, unread_halts, unmade_halts}
use Rattle.sled_files.proofs.replay.Replay.read.Goals as goal

pub changes-init : goal.changes-init
changes-init c = record { place = omega arith; reads = reads_none c.args.payload.now c.args.self.now }

pub returns-in-Err-clause-cause : goal.returns-in-Err-clause-cause
returns-in-Err-clause-cause c = unread_halts c.changes.invariant.reads c.in-Err.e c.changes-test.true c.in-Err.ensures.cause

pub returns-in-Err-apply-clause-cause : goal.returns-in-Err-apply-clause-cause
returns-in-Err-apply-clause-cause c = unmade_halts c.changes.invariant.reads c.in-Err-apply.e c.in-Ok.next.0 c.in-Ok.next.1 c.changes-test.true c.in-Ok.ensures.ok c.in-Err-apply.ensures.cause

pub changes-preserved : goal.changes-preserved
changes-preserved c =
    let place = c.in-Ok.ensures.place in
    record {
      place = place.1;
      reads = reads_one c.changes.invariant.reads c.in-Ok.next.0 c.in-Ok.next.1 c.apply.new.self c.changes-test.true place.0 c.in-Ok.ensures.ok c.in_default.ensures.ok c.in_default.ensures.numbers c.in_default.ensures.placed;
    }

pub returns-clause-ok : goal.returns-clause-ok
returns-clause-ok c = reads_end c.changes.invariant.reads (drop_all c.changes.at c.args.payload.now c.changes-test.false)
