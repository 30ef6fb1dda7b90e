use Rattle.std.proofs.Common.{rules}
use Rattle.example_stores.proofs.Logging.{flushes, flush_keeps}
use Rattle.example_stores.proofs.log_pages.LogPagesPages.flush.Goals as goal

pub invariant_of-self : goal.invariant_of-self
invariant_of-self c = record { kept = flush_keeps c.args.self.now c.len-self.result (search rules) c.requires }

pub returns-clause-ok : goal.returns-clause-ok
returns-clause-ok c = flushes c.args.self.now c.len-self.result (search rules)
