use Rattle.sled_nodes.proofs.Basics.{ok_weaker}
use Rattle.sled_pages.specs.Memory.{store_of}
use Rattle.example_parts.specs.Reads.{maps_now}
use Rattle.example_transactions.proofs.Transferring.{sum_survives}
use Rattle.example_transactions.proofs.transfers.transfer_and_crash.Goals as goal

pub returns : goal.returns
returns g c = ok_weaker _ _ (λ left r total sum. sum_survives c.args.tree.now.name c.args.from.now c.args.to.now total (store_of c.settle.new.db.pages) (store_of c.transfer.new.db.pages) (store_of left.pages)
    (maps_now store_of g.M.MergeOperator.meant c.args.db) (maps_now store_of g.M.MergeOperator.meant c.settle.new.db) (maps_now store_of g.M.MergeOperator.meant left)
    c.in-Ok.ensures.ok c.settle.ensures.same (c.transfer.ensures.kept total) r sum) c.recover.result c.recover.ensures
