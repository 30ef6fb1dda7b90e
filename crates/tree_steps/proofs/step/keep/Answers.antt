use Rattle.tree_steps.proofs.Unkept.{unkept}
use Rattle.tree_steps.proofs.step.keep.Goals as goal

pub returns-in_default-clause-kept : goal.returns-in_default-clause-kept
returns-in_default-clause-kept g c = c.nothing-in_default.ensures _ (unkept _ c.args.went c.in_default.not-Decided)
