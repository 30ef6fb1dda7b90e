use Rattle.std.proofs.Common.{◌≤◌}
use Rattle.tree_transactions.specs.Ids.{OnlyRaises}
use Rattle.tree_transactions.specs.Transactions.{TransactsAll}
use Rattle.sled.proofs.Transacting.{so_over, takes_as, list_goes}
use Rattle.sled.proofs.db.Db.run_on_list.Goals as goal

pub transact_all-requires-after_bounds : goal.transact_all-requires-after_bounds
transact_all-requires-after_bounds g c κs within =
    λ s here only le aside given begins. c.requires s here (so_over g.P.Pages.store _ _ c.self.view_is (λ z n. OnlyRaises z s) only) (so_over g.P.Pages.store _ _ c.self.view_is (λ z n. n ≤ here) le) (so_over g.P.Pages.store _ _ c.self.view_is (λ z n. n ≤ z.mark → here ≤ s.mark) aside) given begins

pub returns-clause-runs : goal.returns-clause-runs
returns-clause-runs g c =
    let store = g.P.Pages.store in
    so_over store _ _ c.self.view_is (λ z n. TransactsAll store g.F.Fn g.R.TransactionAnswer.result_of c.args.f c.args.roots.now z n c.transact_all.result (store c.transact_all.new.pages) c.transact_all.new.greatest_id) c.transact_all.ensures

pub returns-clause-takes : goal.returns-clause-takes
returns-clause-takes g c =
    let goes = list_goes g.P.Pages.store g.F.Fn g.R.TransactionAnswer.result_of c.args.f c.args.roots.now _ _ c.transact_all.result _ _ c.transact_all.ensures in
    takes_as g.P.Pages.store g.M.MergeOperator.meant _ _ c.self.view_is c.transact_all.new.pages c.transact_all.new.greatest_id goes.only goes.rises goes.aside
