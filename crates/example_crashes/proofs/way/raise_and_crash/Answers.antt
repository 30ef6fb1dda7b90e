use Rattle.std.proofs.Common.{◌≡◌, ◌∙◌, ℕ, ◌*◌, true, ap, subst}
use Rattle.sled_pages.specs.Memory.{store_of}
use Rattle.sled_model.specs.Maps.{Maps}
use Rattle.machine_shared.specs.History.{maps_from}
use Rattle.machine_shared.specs.Shared.{opening_of}
use Rattle.machine_shared.specs.Values.{OpeningValue, SharedValue}
use Rattle.example_crashes.specs.Crashing.{Survives, number_stored, number_under}
use Rattle.example_crashes.specs.theory.Raised.{IsRaised}
use Rattle.sled_nodes.proofs.Basics.{ok_weaker}
use Rattle.example_crashes.proofs.Handles.{some_goes}
use Rattle.example_crashes.proofs.Stopping.{stopped_after}
use Rattle.example_crashes.proofs.way.raise_and_crash.Goals as goal

pub returns-in-Ok-raised_beside-clause-survives : goal.returns-in-Ok-raised_beside-clause-survives
returns-in-Ok-raised_beside-clause-survives g c =
    let state = c.in-Ok-raised_beside.state in
    let tree = c.args.tree.now in
    let key = c.args.key.now in
    let by = c.args.callers * c.args.times in
    let first =
    ap (λ (o : OpeningValue). number_under (maps_from o.contents) tree.name key) (c.in-Ok-raised_beside.ensures.opening ∙ ap (λ (x : SharedValue). x.opening) c.in-Ok.ensures.ok)
    ∙ ap (λ (m : Maps). number_under m tree.name key) c.audit_opening.ensures.maps in
    ok_weaker (λ came. (n : ℕ) → IsRaised store_of tree key n state → Survives c.args.flushes (number_under (maps_from state.opening.contents) tree.name key) n came.raised came.found)
    (λ came. Survives c.args.flushes (number_stored (store_of c.args.db.pages) tree.name key) by came.raised came.found) (λ came so. subst (λ n. Survives c.args.flushes n by came.raised came.found) first (so by c.in-Ok-raised_beside.ensures.raised)) c.crash_of.result c.crash_of.ensures.survives

pub returns-in-Ok-raised_beside-clause-stopped : goal.returns-in-Ok-raised_beside-clause-stopped
returns-in-Ok-raised_beside-clause-stopped g c = stopped_after g.M.MergeOperator.meant c.args.db c.crash_of.result c.crash_of.ensures.stopped

pub returns-in-Err-raised_beside-clause-stopped : goal.returns-in-Err-raised_beside-clause-stopped
returns-in-Err-raised_beside-clause-stopped g c =
    some_goes c.in-Err-raised_beside.left (λ s. s.opening ≡ c.in-Ok.shared.opening) (λ s. s.opening ≡ opening_of store_of true c.args.db) (λ s e. e ∙ ap (λ (x : SharedValue). x.opening) c.in-Ok.ensures.ok) c.in-Err-raised_beside.ensures.left
