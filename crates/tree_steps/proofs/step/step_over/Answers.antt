use Rattle.std.proofs.Common.{sym, ◌∙◌}
use Rattle.std.specs.Option.{option_map}
use Rattle.sled_tree.proofs.Descending.{on_key}
use Rattle.tree_steps.proofs.KeptSteps.{scan_kept, kept_alone}
use Rattle.tree_steps.proofs.step.step_over.Goals as goal

pub returns-then-not-is_on_key-clause-steps : goal.returns-then-not-is_on_key-clause-steps
returns-then-not-is_on_key-clause-steps g c = scan_kept _ _ _ c.args.flight.now _ (sym c.is_on_key.ensures ∙ c.if-not-is_on_key.true) _ _ _ c.advance.ensures c.keep.ensures.comes

pub returns-in_default-clause-steps : goal.returns-in_default-clause-steps
returns-in_default-clause-steps g c = kept_alone (option_map (λ o. g.M.MergeOperator.meant o.now) c.args.operator) _ _ c.args.flight.now _ (on_key _ _ c.is_on_key.ensures c.if-not-is_on_key.false) c.args.queues.now c.requires.calm c.in_default.not-Act _ _ (record { advances = c.advance-in_default.ensures.advances; passes = c.advance-in_default.ensures.passes; follows = c.advance-in_default.ensures.follows }) c.keep-in_default.ensures.comes
