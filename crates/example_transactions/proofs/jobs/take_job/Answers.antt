use Rattle.std.proofs.Common.{rules}
use Rattle.sled_nodes.proofs.Basics.{ok_weaker, err_weaker}
use Rattle.example_transactions.proofs.Jobbing.{job_taken, job_refused, job_keeps}
use Rattle.example_transactions.proofs.jobs.take_job.Goals as goal

pub returns-clause-ok : goal.returns-clause-ok
returns-clause-ok g c = ok_weaker _ _ (λ taken made. job_taken g.P.Pages.store g.P.Pages.flush_number g.M.MergeOperator.meant _ _ _ c.args.db.now c.transaction_all.new.self c.args.ready.now c.args.running.now c.args.job.now c.law_shows.ensures.list c.audit.ensures.sound
    taken made (λ shown left answer k. search rules)) c.transaction_all.result c.transaction_all.ensures.ok

pub returns-clause-err : goal.returns-clause-err
returns-clause-err g c = err_weaker _ _ (λ e not. job_refused g.P.Pages.store g.P.Pages.flush_number g.M.MergeOperator.meant _ _ _ c.args.db.now c.transaction_all.new.self c.args.ready.now c.args.running.now c.args.job.now c.law_shows.ensures.list c.audit.ensures.sound
    e not (λ shown left answer k. search rules)) c.transaction_all.result c.transaction_all.ensures.err

pub returns-clause-kept : goal.returns-clause-kept
returns-clause-kept g c = job_keeps g.P.Pages.store g.P.Pages.flush_number g.M.MergeOperator.meant _ _ _ c.args.db.now c.transaction_all.new.self c.args.ready.now c.args.running.now c.args.job.now c.law_shows.ensures.list c.audit.ensures.sound
    c.transaction_all.result c.transaction_all.ensures.ok c.transaction_all.ensures.err (λ shown left answer k. search rules)
