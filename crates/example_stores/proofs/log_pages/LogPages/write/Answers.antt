use Rattle.example_stores.proofs.Logging.{written}
use Rattle.example_stores.proofs.log_pages.LogPages.write.Goals as goal

pub invariant_of-self-2 : goal.invariant_of-self-2
invariant_of-self-2 c = let m = c.args.self.now in record {
  kept = written m.log.items _ c.args.action m.flushed m.last_pid c.args.last_pid m.next_version c.args.next_version c.in_default.ensures.items c.requires.given c.requires.pids c.requires.versions c.ranges.last_pid.fits m.kept;
}
