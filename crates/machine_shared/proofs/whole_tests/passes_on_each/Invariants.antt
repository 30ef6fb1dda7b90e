use Rattle.std.proofs.Common.{◌≡◌, take, All, [], ◌∷◌, None}
use Rattle.sled_model.specs.Refusal.{must_refuse_of}
use Rattle.sled.specs.Values.{db_state}
use Rattle.machine_shared.proofs.whole_tests.passes_on_each.Given as goal

abbrev pub invariant-loop-batch : goal.invariant-loop-batch
invariant-loop-batch g l = All (λ b. must_refuse_of (db_state g.P.Pages.store g.M.MergeOperator.meant l.machine.db) (b.0 ∷ []) ≡ None) (take l.batch-index l.batches)
