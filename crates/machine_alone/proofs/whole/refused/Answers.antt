use Rattle.std.proofs.Common.{ap}
use Rattle.sled_model.specs.declared.outcome.Outcome.TheVariants as outcome
use Rattle.tree_steps.proofs.Unkept.{unkept_refused}
use Rattle.machine_alone.proofs.whole.refused.Goals as goal

pub returns : goal.returns
returns g c = ap (λ k. (outcome.Refused c.args.e, k, c.args.parts)) (c.nothing.ensures _ (unkept_refused _ c.args.e))
