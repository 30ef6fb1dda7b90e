use Rattle.machine_shared.proofs.Committing.{flush_made, flush_refused}
use Rattle.machine_shared.proofs.transactions.make_flush.Goals as goal

pub returns-clause-makes : goal.returns-clause-makes
returns-clause-makes g c = flush_made g.P.Pages.store g.P.Pages.flush_number g.M.MergeOperator.meant c.args.state.now c.whole-outcome.new.self c.args.me.now c.whole-outcome.new.me c.whole-outcome.result c.decided.result c.decided.ensures.ok
    (record { notes = c.whole-outcome.ensures.whole; number = c.whole-outcome.ensures.number; opening = c.whole-outcome.ensures.opening; scans = c.whole-outcome.ensures.scans })

pub returns-clause-stops : goal.returns-clause-stops
returns-clause-stops g c = flush_refused g.P.Pages.store g.P.Pages.flush_number g.M.MergeOperator.meant c.args.state.now c.whole-outcome.new.self c.args.me.now c.whole-outcome.new.me c.whole-outcome.result c.decided.result c.decided.ensures.why
    (record { notes = c.whole-outcome.ensures.whole; number = c.whole-outcome.ensures.number; opening = c.whole-outcome.ensures.opening; scans = c.whole-outcome.ensures.scans })
