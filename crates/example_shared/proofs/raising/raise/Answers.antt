use Rattle.std.proofs.Common.{◌∙◌, refl, arith}
use Rattle.example_shared.proofs.Attempts.{raises_none, raises_on, calls_none, calls_more, calls_all}
use Rattle.example_shared.proofs.raising.raise.Goals as goal

pub loop-init : goal.loop-init
loop-init g c = (raises_none _ _ _, refl, calls_none _)

pub loop-preserved : goal.loop-preserved
loop-preserved g c = (
  raises_on _ _ _ _ _ _ c.loop.invariant.0 c.in-Overtaken.ensures.made,
  c.in-Overtaken.ensures.number ∙ c.loop.invariant.1,
  calls_more _ _ _ _ c.loop.invariant.2 c.in-Overtaken.ensures.calls,
)

pub returns-clause-calls : goal.returns-clause-calls
returns-clause-calls g c = calls_all _ _ _ _ c.loop.invariant.2 (let f = c.loop-test.false in let e = c.loop.auto.counter-end in omega arith)
