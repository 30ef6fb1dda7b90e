use Rattle.std.proofs.Common.{refl, ap, ◌∙◌}
use Rattle.std.specs.Option.{option_map}
use Rattle.std.specs.Ordering.{nat_cmp}
use Rattle.std.specs.FinMap.Entries.{find}
use Rattle.tree_steps.proofs.Unkept.{unkept_refused}
use Rattle.sled.proofs.Flying.{flies_limit, below_limit}
use Rattle.sled.proofs.Yielding.{flown_as}
use Rattle.sled.proofs.Operating.{mapped}
use Rattle.sled.proofs.db.Db.advance_tested.Goals as goal

pub returns-then-flight-eq-MAX_LOOPS-clause-steps : goal.returns-then-flight-eq-MAX_LOOPS-clause-steps
returns-then-flight-eq-MAX_LOOPS-clause-steps g c = flies_limit g.P.Pages.store g.M.MergeOperator.meant _ _ c.requires.tested _ _ c.if-flight-eq-MAX_LOOPS.true refl (λ slots given. (refl, c.if-flight-eq-MAX_LOOPS.true))

pub returns-then-flight-eq-MAX_LOOPS-clause-kept : goal.returns-then-flight-eq-MAX_LOOPS-clause-kept
returns-then-flight-eq-MAX_LOOPS-clause-kept g c = c.nothing.ensures _ (unkept_refused _ _)

pub invariant_of-self : goal.invariant_of-self
invariant_of-self g c = (flown_as g.P.Pages.store g.M.MergeOperator.meant _ _ c.self.view_is c.self.invariant c.args.flight.now _ _ (below_limit c.args.flight.now c.requires.known.fits c.if-flight-eq-MAX_LOOPS.false) _ c.step_over.new.flight c.requires.tested c.requires.known _ (mapped g.M.MergeOperator.meant (λ o. o.now) c.operator_of-operator.result ∙ ap (option_map g.M.MergeOperator.meant) (c.operator_of-operator.ensures ∙ ap (find nat_cmp c.args.flight.now.job.tree.number) c.as_slice.ensures.value)) c.step_over.ensures.steps).1

pub returns-clause-steps : goal.returns-clause-steps
returns-clause-steps g c = (flown_as g.P.Pages.store g.M.MergeOperator.meant _ _ c.self.view_is c.self.invariant c.args.flight.now _ _ (below_limit c.args.flight.now c.requires.known.fits c.if-flight-eq-MAX_LOOPS.false) _ c.step_over.new.flight c.requires.tested c.requires.known _ (mapped g.M.MergeOperator.meant (λ o. o.now) c.operator_of-operator.result ∙ ap (option_map g.M.MergeOperator.meant) (c.operator_of-operator.ensures ∙ ap (find nat_cmp c.args.flight.now.job.tree.number) c.as_slice.ensures.value)) c.step_over.ensures.steps).0
