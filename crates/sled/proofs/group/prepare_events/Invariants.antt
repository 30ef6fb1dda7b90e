use Rattle.std.proofs.Common.{drop}
use Rattle.sled.proofs.Telling.{PreparedSoFar}
use Rattle.sled.proofs.group.prepare_events.Given as goal

-- the events of the writes so far are prepared
abbrev pub invariant-loop-write : goal.invariant-loop-write
invariant-loop-write l = PreparedSoFar l.writes (drop l.write-index l.writes) l.fn.queues l.queues
