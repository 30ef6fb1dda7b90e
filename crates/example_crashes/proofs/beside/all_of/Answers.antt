use Rattle.std.proofs.Common.{IfSome}
use Rattle.example_crashes.specs.theory.Raised.{HasRaised}
use Rattle.example_crashes.proofs.Handles.{popped}
use Rattle.example_crashes.proofs.beside.all_of.Goals as goal

pub loop-one-preserved : goal.loop-one-preserved
loop-one-preserved g c = λ tree key times all.
    let so = c.loop-one.invariant tree key times all in
    let last = popped (λ one. IfSome one (HasRaised tree key times)) _ _ _ c.in-Some.ensures.items so.0 in
    (last.0, c.add_kept.ensures c.if-not-add_kept.false tree key times last.1 so.1)
