use Rattle.std.proofs.Common.{Ok, Err, true, refl}
use Rattle.machine_shared.specs.Inside.{RunsOver}
use Rattle.machine_shared.specs.Transactions.{RunsIn, batches_of_tree, fails_tests}
use Rattle.machine_shared.proofs.Committing.{not_made, transacted, uncommitted}
use Rattle.machine_shared.proofs.Inside.{ran_over, runs_over}
use Rattle.machine_shared.proofs.Transacting.{ended_made, ended_stopped, ended_failed, taken_maps}
use Rattle.machine_shared.proofs.transactions.transact.Goals as goal

pub returns-in-Ok-commit_tree-clause-made : goal.returns-in-Ok-commit_tree-clause-made
returns-in-Ok-commit_tree-clause-made g c =
    let runs = RunsIn g.P.Pages.store g.M.MergeOperator.meant g.F.Fn g.R.TransactionAnswer.result_of c.args.f c.args.tree.now in
    ended_made g.P.Pages.store g.M.MergeOperator.meant runs (batches_of_tree c.args.tree.now) (true) c.args.state.now.machine.db c.run.new.self.machine.db c.args.me.now.made c.commit_tree.new.me.made c.in-Ok.field-0 c.in-Ok.ensures.ran
    (taken_maps g.P.Pages.store g.M.MergeOperator.meant c.args.state.now.machine.db c.run.new.self.machine.db c.in-Ok.ensures.ran.runs.takes)
    c.in-Ok-commit_tree.ensures.ok

pub returns-in-Err-commit_tree-clause-made : goal.returns-in-Err-commit_tree-clause-made
returns-in-Err-commit_tree-clause-made g c =
    let runs = RunsIn g.P.Pages.store g.M.MergeOperator.meant g.F.Fn g.R.TransactionAnswer.result_of c.args.f c.args.tree.now in
    ended_stopped g.P.Pages.store g.M.MergeOperator.meant runs (batches_of_tree c.args.tree.now) (true) c.args.state.now.machine.db c.run.new.self.machine.db c.args.me.now.made c.commit_tree.new.me.made c.in-Ok.field-0 c.in-Err-commit_tree.e c.in-Ok.ensures.ran
    (taken_maps g.P.Pages.store g.M.MergeOperator.meant c.args.state.now.machine.db c.run.new.self.machine.db c.in-Ok.ensures.ran.runs.takes)
    refl c.in-Err-commit_tree.ensures.err

pub returns-in-Err-clause-made : goal.returns-in-Err-clause-made
returns-in-Err-clause-made g c =
    let runs = RunsIn g.P.Pages.store g.M.MergeOperator.meant g.F.Fn g.R.TransactionAnswer.result_of c.args.f c.args.tree.now in
    let tests = fails_tests g.P.Pages.store g.M.MergeOperator.meant c.args.tree.now in
    ended_failed g.P.Pages.store g.M.MergeOperator.meant runs (batches_of_tree c.args.tree.now) (true) c.args.state.now.machine.db c.run.new.self.machine.db c.args.me.now.made c.args.me.now.made (tests c.args.state.now.machine.db) c.in-Err.e c.in-Err.ensures.ran

pub returns-in-Ok-commit_tree-clause-does : goal.returns-in-Ok-commit_tree-clause-does
returns-in-Ok-commit_tree-clause-does g c =
    let runs = RunsOver g.P.Pages.store g.M.MergeOperator.meant g.F.Fn g.R.TransactionAnswer.result_of c.args.f c.args.tree.now in
    let tests = fails_tests g.P.Pages.store g.M.MergeOperator.meant c.args.tree.now in
    transacted g.P.Pages.store g.P.Pages.flush_number g.M.MergeOperator.meant tests runs (batches_of_tree c.args.tree.now) (true) c.args.me.now c.commit_tree.new.me c.args.state.now c.run.new.self c.commit_tree.new.state c.in-Ok.ensures.same c.in-Ok.field-0
    (runs_over g.P.Pages.store g.M.MergeOperator.meant g.R.TransactionAnswer.result_of c.args.f c.args.state.now.machine.db g.F.Fn c.args.tree.now (Ok c.in-Ok.field-0) c.run.new.self.machine.db c.in-Ok.ensures.ran)
    c.in-Ok-commit_tree.ensures.commits

pub returns-in-Err-commit_tree-clause-does : goal.returns-in-Err-commit_tree-clause-does
returns-in-Err-commit_tree-clause-does g c =
    let runs = RunsOver g.P.Pages.store g.M.MergeOperator.meant g.F.Fn g.R.TransactionAnswer.result_of c.args.f c.args.tree.now in
    let tests = fails_tests g.P.Pages.store g.M.MergeOperator.meant c.args.tree.now in
    uncommitted g.P.Pages.store g.P.Pages.flush_number g.M.MergeOperator.meant tests runs (batches_of_tree c.args.tree.now) (true) c.args.me.now c.commit_tree.new.me c.args.state.now c.run.new.self c.commit_tree.new.state c.in-Ok.ensures.same c.in-Ok.field-0 c.in-Err-commit_tree.e
    (runs_over g.P.Pages.store g.M.MergeOperator.meant g.R.TransactionAnswer.result_of c.args.f c.args.state.now.machine.db g.F.Fn c.args.tree.now (Ok c.in-Ok.field-0) c.run.new.self.machine.db c.in-Ok.ensures.ran)
    refl c.in-Err-commit_tree.ensures.stops

pub returns-in-Err-clause-does : goal.returns-in-Err-clause-does
returns-in-Err-clause-does g c =
    let runs = RunsOver g.P.Pages.store g.M.MergeOperator.meant g.F.Fn g.R.TransactionAnswer.result_of c.args.f c.args.tree.now in
    let tests = fails_tests g.P.Pages.store g.M.MergeOperator.meant c.args.tree.now in
    not_made g.P.Pages.store g.P.Pages.flush_number g.M.MergeOperator.meant tests runs (batches_of_tree c.args.tree.now) (true) c.args.me.now c.args.state.now c.run.new.self c.in-Err.ensures.same c.in-Err.e
    (ran_over g.P.Pages.store g.M.MergeOperator.meant g.R.TransactionAnswer.result_of c.args.f c.args.state.now.machine.db g.F.Fn c.args.tree.now (tests c.args.state.now.machine.db) (Err c.in-Err.e) c.run.new.self.machine.db c.in-Err.ensures.ran)
