use Rattle.std.proofs.Common.{◌≡◌, min, length, take, drop, sym, ap, ◌∙◌, subst}
use Rattle.std.proofs.lemmas.Bool.{eqb-true}
use Rattle.example_databases.specs.Batches.{LoadsBatch}
use Rattle.example_databases.proofs.Batched.{Loaded, loaded_more, loaded_stops, loaded_all, none_left}
use Rattle.example_databases.proofs.batches.load.Goals as goal

pub returns-in_err-load_batch-clause-crash : goal.returns-in_err-load_batch-clause-crash
returns-in_err-load_batch-clause-crash g c = loaded_stops g.P.Pages.store g.M.MergeOperator.meant c.args.db.now c.args.tree.now.name c.args.pairs.now c.batches.db c.load_batch.new.db c.batches.rest.now c.batches.invariant c.in_err-load_batch.ensures.err

pub batches-preserved : goal.batches-preserved
batches-preserved g c =
    let count : c.min.result ≡ min 100 (length c.batches.rest.now) = c.min.ensures in
    subst (λ rest. Loaded g.P.Pages.store g.M.MergeOperator.meant c.args.db.now c.args.tree.now.name c.args.pairs.now c.load_batch.new.db rest) (sym (c.split_at.ensures.back ∙ ap (λ n. drop n c.batches.rest.now) count))
    (loaded_more g.P.Pages.store g.M.MergeOperator.meant c.args.db.now c.args.tree.now.name c.args.pairs.now c.batches.db c.load_batch.new.db c.batches.rest.now c.batches.invariant
    (subst (λ first. LoadsBatch g.P.Pages.store g.M.MergeOperator.meant c.batches.db c.args.tree.now.name first c.load_batch.new.db) (c.split_at.ensures.front ∙ ap (λ n. take n c.batches.rest.now) count) c.in_ok-load_batch.ensures.ok))

pub returns-clause-ok : goal.returns-clause-ok
returns-clause-ok g c = loaded_all g.P.Pages.store g.M.MergeOperator.meant c.args.db.now c.args.tree.now.name c.args.pairs.now c.batches.db c.batches.rest.now (none_left c.batches.rest.now (eqb-true (length c.batches.rest.now) 0 (sym c.batches-test.ensures))) c.batches.invariant
