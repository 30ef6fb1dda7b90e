use Rattle.std.proofs.Common.{rules}
use Rattle.sled_nodes.proofs.Basics.{err_weaker}
use Rattle.example_transactions.proofs.Attempted.{on_ok}
use Rattle.example_transactions.proofs.Transferring.{transfer_made, transfer_not_made, transfer_keeps}
use Rattle.example_transactions.proofs.transfers.transfer.Goals as goal

pub returns-clause-ok : goal.returns-clause-ok
returns-clause-ok g c = on_ok _ _ (λ a made. transfer_made g.P.Pages.store g.P.Pages.flush_number g.M.MergeOperator.meant _ _ _ c.args.db.now c.transaction.new.self c.args.tree.now c.args.from.now c.args.to.now c.args.amount c.law_shows.ensures.tree c.audit.ensures.sound
    a made (λ shown left answer k. search rules)) c.transaction.result c.transaction.ensures.ok

pub returns-clause-err : goal.returns-clause-err
returns-clause-err g c = err_weaker _ _ (λ e not. transfer_not_made g.P.Pages.store g.P.Pages.flush_number g.M.MergeOperator.meant _ _ _ c.args.db.now c.transaction.new.self c.args.tree.now c.args.from.now c.args.to.now c.args.amount c.law_shows.ensures.tree c.audit.ensures.sound
    e not (λ shown left answer k. search rules)) c.transaction.result c.transaction.ensures.err

pub returns-clause-kept : goal.returns-clause-kept
returns-clause-kept g c = transfer_keeps g.P.Pages.store g.P.Pages.flush_number g.M.MergeOperator.meant _ _ _ c.args.db.now c.transaction.new.self c.args.tree.now c.args.from.now c.args.to.now c.args.amount c.law_shows.ensures.tree c.audit.ensures.sound
    c.transaction.result c.transaction.ensures.ok c.transaction.ensures.err (λ shown left answer k. search rules)
