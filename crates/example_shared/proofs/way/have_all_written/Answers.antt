use Rattle.std.proofs.Common.{◌≤◌, All, List, length, take_all, subst, arith}
use Rattle.std.proofs.lemmas.List.Elements.{All-more}
use Rattle.machine_shared.specs.Values.{CallerValue}
use Rattle.example_shared.specs.Raising.{HasWritten}
use Rattle.example_shared.proofs.way.have_all_written.Goals as goal

pub loop-handle-preserved : goal.loop-handle-preserved
loop-handle-preserved g c = All-more (HasWritten c.args.times) c.args.handles.now c.loop-handle.handle-index c.handle-item.result c.loop-handle-test.true c.loop-handle.invariant
    (subst (HasWritten c.args.times) c.handle-item.is (c.has_all_written.ensures c.if-not-has_all_written.false))

pub returns : goal.returns
returns g c h =
    let most : length c.args.handles.now ≤ c.loop-handle.handle-index = let t = c.loop-handle-test.false in let e = c.loop-handle.auto.handle-index-end in omega arith in
    subst (λ (hs : List CallerValue). All (HasWritten c.args.times) hs) (take_all c.loop-handle.handle-index c.args.handles.now most) c.loop-handle.invariant
