use Rattle.example_crashes.proofs.Handles.{raised_none, raised_more, raised_all}
use Rattle.example_crashes.proofs.beside.raise_on.Goals as goal

pub loop-init : goal.loop-init
loop-init g c = raised_none _ _ _ c.requires

pub loop-preserved : goal.loop-preserved
loop-preserved g c = raised_more _ _ _ _ _ _ c.loop.invariant c.in-Ok.ensures.ok

pub returns : goal.returns
returns g c = λ so. raised_all _ _ _ _ _ c.loop.invariant c.loop-test.false c.loop.auto.counter-end
