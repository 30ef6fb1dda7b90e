use Rattle.std.proofs.Common.{List, Ok, Err, subst}
use Rattle.std.specs.List.{zip}
use Rattle.sled.specs.Transactions.{has_trees, trees_of_list}
use Rattle.sled_batch.specs.Batch.{Writes}
use Rattle.sled_model.specs.State.{maps_of}
use Rattle.sled.specs.Values.{db_state}
use Rattle.machine_shared.specs.Inside.{RunsOverAll}
use Rattle.machine_shared.specs.Transacted.{RefusesCommit, commits_as}
use Rattle.machine_shared.specs.Transactions.{RunsAllIn, fails_tests_of_list, transaction_made}
use Rattle.machine_shared.specs.theory.Transacting.{StopsCommit, adds_commit}
use Rattle.machine_shared.proofs.Committing.{not_made, transacted, uncommitted}
use Rattle.machine_shared.proofs.Inside.{ran_over_all, runs_over_all}
use Rattle.machine_shared.proofs.Transacting.{ended_made, ended_stopped, ended_failed, taken_maps}
use Rattle.machine_shared.proofs.lists.transact_all.Goals as goal

pub returns-in-Ok-commit_list-clause-made : goal.returns-in-Ok-commit_list-clause-made
returns-in-Ok-commit_list-clause-made g c =
    let trees = trees_of_list c.args.trees.now in
    let runs = RunsAllIn g.P.Pages.store g.M.MergeOperator.meant g.F.Fn g.R.TransactionAnswer.result_of c.args.f trees in
    ended_made g.P.Pages.store g.M.MergeOperator.meant runs (zip trees) (has_trees trees) c.args.state.now.machine.db c.run_all.new.self.machine.db c.args.me.now.made c.commit_list.new.me.made c.in-Ok.field-0 c.in-Ok.ensures.ran
    (taken_maps g.P.Pages.store g.M.MergeOperator.meant c.args.state.now.machine.db c.run_all.new.self.machine.db c.in-Ok.ensures.ran.runs.takes)
    (subst (λ (ws : List Writes). adds_commit (has_trees trees) (transaction_made (maps_of (db_state g.P.Pages.store g.M.MergeOperator.meant c.run_all.new.self.machine.db)) (zip trees ws)) c.in-Ok.field-0.flushes c.args.me.now.made c.commit_list.new.me.made) c.into_batches.ensures c.in-Ok-commit_list.ensures.ok)

pub returns-in-Err-commit_list-clause-made : goal.returns-in-Err-commit_list-clause-made
returns-in-Err-commit_list-clause-made g c =
    let trees = trees_of_list c.args.trees.now in
    let runs = RunsAllIn g.P.Pages.store g.M.MergeOperator.meant g.F.Fn g.R.TransactionAnswer.result_of c.args.f trees in
    ended_stopped g.P.Pages.store g.M.MergeOperator.meant runs (zip trees) (has_trees trees) c.args.state.now.machine.db c.run_all.new.self.machine.db c.args.me.now.made c.commit_list.new.me.made c.in-Ok.field-0 c.in-Err-commit_list.e c.in-Ok.ensures.ran
    (taken_maps g.P.Pages.store g.M.MergeOperator.meant c.args.state.now.machine.db c.run_all.new.self.machine.db c.in-Ok.ensures.ran.runs.takes)
    c.in-Err-commit_list.ensures.there
    (subst (λ (ws : List Writes). StopsCommit (transaction_made (maps_of (db_state g.P.Pages.store g.M.MergeOperator.meant c.run_all.new.self.machine.db)) (zip trees ws)) c.in-Ok.field-0.flushes c.args.me.now.made c.commit_list.new.me.made) c.into_batches.ensures c.in-Err-commit_list.ensures.err)

pub returns-in-Err-clause-made : goal.returns-in-Err-clause-made
returns-in-Err-clause-made g c =
    let trees = trees_of_list c.args.trees.now in
    let runs = RunsAllIn g.P.Pages.store g.M.MergeOperator.meant g.F.Fn g.R.TransactionAnswer.result_of c.args.f trees in
    let tests = fails_tests_of_list g.P.Pages.store g.M.MergeOperator.meant trees in
    ended_failed g.P.Pages.store g.M.MergeOperator.meant runs (zip trees) (has_trees trees) c.args.state.now.machine.db c.run_all.new.self.machine.db c.args.me.now.made c.args.me.now.made (tests c.args.state.now.machine.db) c.in-Err.e c.in-Err.ensures.ran

pub returns-in-Ok-commit_list-clause-does : goal.returns-in-Ok-commit_list-clause-does
returns-in-Ok-commit_list-clause-does g c =
    let trees = trees_of_list c.args.trees.now in
    let runs = RunsOverAll g.P.Pages.store g.M.MergeOperator.meant g.F.Fn g.R.TransactionAnswer.result_of c.args.f trees in
    let tests = fails_tests_of_list g.P.Pages.store g.M.MergeOperator.meant trees in
    transacted g.P.Pages.store g.P.Pages.flush_number g.M.MergeOperator.meant tests runs (zip trees) (has_trees trees) c.args.me.now c.commit_list.new.me c.args.state.now c.run_all.new.self c.commit_list.new.state c.in-Ok.ensures.same c.in-Ok.field-0
    (runs_over_all g.P.Pages.store g.M.MergeOperator.meant g.R.TransactionAnswer.result_of c.args.f c.args.state.now.machine.db g.F.Fn trees (Ok c.in-Ok.field-0) c.run_all.new.self.machine.db c.in-Ok.ensures.ran)
    (subst (λ (ws : List Writes). commits_as g.P.Pages.store g.P.Pages.flush_number g.M.MergeOperator.meant (has_trees trees) (zip trees ws) c.in-Ok.field-0.flushes c.args.me.now c.commit_list.new.me c.run_all.new.self c.commit_list.new.state) c.into_batches.ensures c.in-Ok-commit_list.ensures.commits)

pub returns-in-Err-commit_list-clause-does : goal.returns-in-Err-commit_list-clause-does
returns-in-Err-commit_list-clause-does g c =
    let trees = trees_of_list c.args.trees.now in
    let runs = RunsOverAll g.P.Pages.store g.M.MergeOperator.meant g.F.Fn g.R.TransactionAnswer.result_of c.args.f trees in
    let tests = fails_tests_of_list g.P.Pages.store g.M.MergeOperator.meant trees in
    uncommitted g.P.Pages.store g.P.Pages.flush_number g.M.MergeOperator.meant tests runs (zip trees) (has_trees trees) c.args.me.now c.commit_list.new.me c.args.state.now c.run_all.new.self c.commit_list.new.state c.in-Ok.ensures.same c.in-Ok.field-0 c.in-Err-commit_list.e
    (runs_over_all g.P.Pages.store g.M.MergeOperator.meant g.R.TransactionAnswer.result_of c.args.f c.args.state.now.machine.db g.F.Fn trees (Ok c.in-Ok.field-0) c.run_all.new.self.machine.db c.in-Ok.ensures.ran)
    c.in-Err-commit_list.ensures.there
    (subst (λ (ws : List Writes). RefusesCommit g.P.Pages.store g.P.Pages.flush_number g.M.MergeOperator.meant (zip trees ws) c.in-Ok.field-0.flushes c.in-Err-commit_list.e c.args.me.now c.commit_list.new.me c.run_all.new.self c.commit_list.new.state) c.into_batches.ensures c.in-Err-commit_list.ensures.stops)

pub returns-in-Err-clause-does : goal.returns-in-Err-clause-does
returns-in-Err-clause-does g c =
    let trees = trees_of_list c.args.trees.now in
    let runs = RunsOverAll g.P.Pages.store g.M.MergeOperator.meant g.F.Fn g.R.TransactionAnswer.result_of c.args.f trees in
    let tests = fails_tests_of_list g.P.Pages.store g.M.MergeOperator.meant trees in
    not_made g.P.Pages.store g.P.Pages.flush_number g.M.MergeOperator.meant tests runs (zip trees) (has_trees trees) c.args.me.now c.args.state.now c.run_all.new.self c.in-Err.ensures.same c.in-Err.e
    (ran_over_all g.P.Pages.store g.M.MergeOperator.meant g.R.TransactionAnswer.result_of c.args.f c.args.state.now.machine.db g.F.Fn trees (tests c.args.state.now.machine.db) (Err c.in-Err.e) c.run_all.new.self.machine.db c.in-Err.ensures.ran)
