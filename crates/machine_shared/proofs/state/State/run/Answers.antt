use Rattle.std.proofs.Common.{refl, subst, le_of_eq}
use Rattle.sled.specs.Transactions.{RunsOnTree}
use Rattle.machine_shared.specs.Made.{entry_values}
use Rattle.machine_shared.specs.Transactions.{RunsIn, fails_tests}
use Rattle.machine_shared.specs.Values.{StateValue}
use Rattle.machine_shared.specs.theory.Transacting.{ran_as}
use Rattle.machine_shared.proofs.Running.{ran_state, same_parts}
use Rattle.machine_shared.proofs.ScanStates.{after_run}
use Rattle.machine_shared.proofs.Transacting.{ran, taken}
use Rattle.machine_shared.proofs.state.State.run.Goals as goal

pub returns-clause-ran : goal.returns-clause-ran
returns-clause-ran g c =
    let store = g.P.Pages.store in
    let meant = g.M.MergeOperator.meant in
    let result_of = g.R.TransactionAnswer.result_of in
    let db = c.self.inside.machine.db in
    subst (λ (s : StateValue _ _). ran_as (fails_tests store meant c.args.tree.now s.machine.db) (RunsIn store meant g.F.Fn result_of c.args.f c.args.tree.now s.machine.db) s.machine.db c.run_transaction.result c.run_transaction.new.self.db) c.self.view_is
    (ran store meant (fails_tests store meant c.args.tree.now db) (RunsOnTree store meant g.F.Fn result_of c.args.f db c.args.tree.now) db c.audit.ensures.sound c.run_transaction.result c.run_transaction.new.self.db c.run_transaction.ensures.runs)

pub returns-clause-same : goal.returns-clause-same
returns-clause-same g c = same_parts c.args.self.now c.self.inside.machine c.run_transaction.new.self _ c.self.view_is refl c.run_transaction.ensures.same

pub invariant_of-self : goal.invariant_of-self
invariant_of-self g c =
    let store = g.P.Pages.store in
    let number = g.P.Pages.flush_number in
    let meant = g.M.MergeOperator.meant in
    let a = c.self.inside.machine in
    let b = c.run_transaction.new.self in
    let opening = c.self.inside.opening in
    let history = entry_values c.self.inside.history.items in
    let took = taken store meant (fails_tests store meant c.args.tree.now a.db) (RunsOnTree store meant g.F.Fn g.R.TransactionAnswer.result_of c.args.f a.db c.args.tree.now) a.db c.run_transaction.result b.db c.run_transaction.ensures.runs in
    let after = ran_state store number meant a b opening history c.self.inside.calls.total c.self.invariant.0 c.run_transaction.ensures.same took in
    (after.0, c.self.invariant.1, after_run store number meant a b opening.contents history history c.self.invariant.0.crashes after.0.crashes after.1 (le_of_eq refl) c.self.inside.scans c.self.invariant.2 c.audit.ensures.ascend.is c.run_transaction.ensures.same took)
