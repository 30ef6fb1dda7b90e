use Rattle.std.proofs.Common.{◌∙◌, sym, subst}
use Rattle.std.proofs.lemmas.List.Elements.{All-get_or, All-more}
use Rattle.sled.specs.Values.{db_state}
use Rattle.machine_shared.proofs.WholeTests.{BatchPasses}
use Rattle.machine_shared.proofs.whole_tests.passes_on_each.Goals as goal

pub returns-then-not-passes_on-clause-no : goal.returns-then-not-passes_on-clause-no
returns-then-not-passes_on-clause-no g c all =
    let s = db_state g.P.Pages.store g.M.MergeOperator.meant c.args.machine.now.db in
    sym c.if-not-passes_on.true ∙ c.passes_on.ensures.no (subst (BatchPasses s) (sym c.batch-item.is) (All-get_or (BatchPasses s) c.args.batches.now c.loop-batch.batch-index c.batch-item.result c.loop-batch-test.true all))

pub loop-batch-preserved : goal.loop-batch-preserved
loop-batch-preserved g c =
    let s = db_state g.P.Pages.store g.M.MergeOperator.meant c.args.machine.now.db in
    All-more (BatchPasses s) c.args.batches.now c.loop-batch.batch-index c.batch-item.result c.loop-batch-test.true c.loop-batch.invariant (subst (BatchPasses s) c.batch-item.is (c.passes_on.ensures.yes c.if-not-passes_on.false))
