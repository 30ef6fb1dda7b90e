use Rattle.std.proofs.Common.{◌≤◌}
use Rattle.tree_transactions.specs.Ids.{OnlyRaises}
use Rattle.tree_transactions.specs.Transactions.{Transacts}
use Rattle.sled.proofs.Transacting.{so_over, takes_as}
use Rattle.sled.proofs.db.Db.run_on.Goals as goal

pub transact-requires-after_bounds : goal.transact-requires-after_bounds
transact-requires-after_bounds g c κs within =
    λ s here only le aside given begins. c.requires s here (so_over g.P.Pages.store _ _ c.self.view_is (λ z n. OnlyRaises z s) only) (so_over g.P.Pages.store _ _ c.self.view_is (λ z n. n ≤ here) le) (so_over g.P.Pages.store _ _ c.self.view_is (λ z n. n ≤ z.mark → here ≤ s.mark) aside) given begins

pub returns-clause-runs : goal.returns-clause-runs
returns-clause-runs g c =
    let store = g.P.Pages.store in
    so_over store _ _ c.self.view_is (λ z n. Transacts store g.F.Fn g.R.TransactionAnswer.result_of c.args.f c.args.root z n c.transact.result (store c.transact.new.pages) c.transact.new.greatest_id) c.transact.ensures

pub returns-clause-takes : goal.returns-clause-takes
returns-clause-takes g c = takes_as g.P.Pages.store g.M.MergeOperator.meant _ _ c.self.view_is c.transact.new.pages c.transact.new.greatest_id c.transact.ensures.only c.transact.ensures.rises c.transact.ensures.aside
