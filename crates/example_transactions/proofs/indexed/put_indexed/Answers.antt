use Rattle.std.proofs.Common.{rules}
use Rattle.sled_nodes.proofs.Basics.{ok_weaker, err_weaker}
use Rattle.example_transactions.proofs.Indexing.{put_made, put_not_made, index_kept}
use Rattle.example_transactions.proofs.indexed.put_indexed.Goals as goal

pub returns-clause-ok : goal.returns-clause-ok
returns-clause-ok g c = ok_weaker _ _ (λ before made. put_made g.P.Pages.store g.P.Pages.flush_number g.M.MergeOperator.meant _ _ _ c.args.db.now c.transaction_all.new.self c.args.table.now c.args.index.now c.args.id.now c.args.email.now c.law_shows.ensures.list c.audit.ensures.sound
    before made (λ shown left answer k. search rules)) c.transaction_all.result c.transaction_all.ensures.ok

pub returns-clause-err : goal.returns-clause-err
returns-clause-err g c = err_weaker _ _ (λ e not. put_not_made g.P.Pages.store g.P.Pages.flush_number g.M.MergeOperator.meant _ _ _ c.args.db.now c.transaction_all.new.self c.args.table.now c.args.index.now c.args.id.now c.args.email.now c.law_shows.ensures.list c.audit.ensures.sound
    e not (λ shown left answer k. search rules)) c.transaction_all.result c.transaction_all.ensures.err

pub returns-clause-kept : goal.returns-clause-kept
returns-clause-kept g c = index_kept g.P.Pages.store g.P.Pages.flush_number g.M.MergeOperator.meant _ _ _ c.args.db.now c.transaction_all.new.self c.args.table.now c.args.index.now c.args.id.now c.args.email.now c.law_shows.ensures.list c.audit.ensures.sound
    c.transaction_all.result c.transaction_all.ensures.ok c.transaction_all.ensures.err (λ shown left answer k. search rules)
