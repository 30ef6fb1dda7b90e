use Rattle.sled_files.proofs.Replaying.{left_at, reads_more, reads_halted}
use Rattle.sled_files.proofs.replay.replay_all.Goals as goal

pub returns-in-Err-read-clause-cause : goal.returns-in-Err-read-clause-cause
returns-in-Err-read-clause-cause c =
    reads_halted c.loop-payload.invariant c.in-Err-read.e _ _ (left_at c.args.others.now c.loop-payload.payload-index _ c.loop-payload-test.true) c.in-Err-read.ensures.cause

pub loop-payload-preserved : goal.loop-payload-preserved
loop-payload-preserved c =
    reads_more c.loop-payload.invariant _ _ c.read-in-loop-payload.new.self (left_at c.args.others.now c.loop-payload.payload-index _ c.loop-payload-test.true) c.in_default-read.ensures.ok
