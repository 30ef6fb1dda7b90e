use Rattle.std.proofs.Common.{◌∷◌, [], true, refl, inl}
use Rattle.sled.specs.Transactions.{RunsOnTree}
use Rattle.sled.proofs.Transacting.{ran_of}
use Rattle.sled.proofs.db.Db.run_transaction.Goals as goal

pub run_on-requires-after_bounds : goal.run_on-requires-after_bounds
run_on-requires-after_bounds g c κs within = c.requires c.in-Ok.ensures.tested c.in-Ok.root c.in-Ok.ensures.is

pub returns : goal.returns
returns g c =
    let store = g.P.Pages.store in
    ran_of store g.P.Pages.flush_number g.M.MergeOperator.meant _ (RunsOnTree store g.M.MergeOperator.meant g.F.Fn g.R.TransactionAnswer.result_of c.args.f c.args.self.now c.args.tree.now) (λ w. (c.args.tree.now, w) ∷ []) true c.args.self.now c.run_on.result c.run_on.new.self
    (record { tested = c.in-Ok.ensures.tested; root = c.in-Ok.root; root_is = c.in-Ok.ensures.is; runs = c.run_on.ensures.runs }) c.run_on.ensures.takes

pub returns-in-Err : goal.returns-in-Err
returns-in-Err g c = inl (c.in-Err.ensures.err, refl)
