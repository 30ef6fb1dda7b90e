use Rattle.std.proofs.Common.{None, subst}
use Rattle.line_sessions.specs.theory.Serve.{ServesFrom}
use Rattle.line_sessions.specs.Serve.{place}
use Rattle.line_sessions.proofs.Reading.{bad_same, bad_kept, bad_told, bad_some}
use Rattle.line_sessions.proofs.Serving.{serves_end, serves_bad, serves_crash}
use Rattle.line_sessions.proofs.serve.run_from.Goals as goal

pub loop-init : goal.loop-init
loop-init g c = record {
  well = c.empty_pages-pages.ensures.well;
  no_group = c.empty_pages-pages.ensures.no_group;
  bad = bad_same _;
  written = c.requires;
  serves = λ read there s. subst (λ z. ServesFrom z (place c.args.buffers.now (g.R.Read.remaining c.args.input.now) (g.W.Write.contents c.args.output.now)) read there) c.empty_pages-pages.ensures.empty s;
}

pub loop-preserved : goal.loop-preserved
loop-preserved g c = record {
  well = c.in_ok-pages-in-Crash.ensures.well;
  no_group = c.in_ok-pages-in-Crash.ensures.no_group;
  bad = bad_kept _ _ _ c.loop.invariant.bad (rw c.in-Crash.is at c.in_ok-end.ensures.bad);
  written = c.in_ok-end.ensures.written;
  serves = λ read there others. c.loop.invariant.serves read there (serves_crash _ _ _ _ _ _ there read (rw c.in-Crash.is at c.in_ok-end.ensures.lived) c.in_ok-pages-in-Crash.ensures.ok others);
}

pub returns-in-NoLine-clause-bad : goal.returns-in-NoLine-clause-bad
returns-in-NoLine-clause-bad g c = bad_told _ _ None c.loop.invariant.bad (rw c.in-NoLine.is at c.in_ok-end.ensures.bad)

pub returns-in-BadLine-clause-bad : goal.returns-in-BadLine-clause-bad
returns-in-BadLine-clause-bad g c = bad_some _ _ _ c.loop.invariant.bad (rw c.in-BadLine.is at c.in_ok-end.ensures.bad)

pub returns-in-NoLine-clause-serves : goal.returns-in-NoLine-clause-serves
returns-in-NoLine-clause-serves g c = c.loop.invariant.serves _ _ (serves_end _ _ _ _ (rw c.in-NoLine.is at c.in_ok-end.ensures.lived))

pub returns-in-BadLine-clause-serves : goal.returns-in-BadLine-clause-serves
returns-in-BadLine-clause-serves g c = c.loop.invariant.serves _ _ (serves_bad _ _ _ _ (rw c.in-BadLine.is at c.in_ok-end.ensures.lived))
