use Rattle.std.proofs.Common.{refl, sym, ap, ◌∙◌, subst}
use Rattle.std.specs.Option.{option_map}
use Rattle.sled_model.specs.declared.outcome.Outcome.TheVariants.{Decided}
use Rattle.sled_queues.specs.Values.{queue_at}
use Rattle.sled_queues.specs.Tells.{is_watched_as}
use Rattle.sled_tree.specs.theory.Linking.{replies_with}
use Rattle.tree_steps.specs.theory.Watched.{AdvancesOver}
use Rattle.tree_steps.proofs.Unkept.{unkept, unkept_moved, unkept_refused}
use Rattle.tree_steps.proofs.Watching.{of_pair, short, links_watched}
use Rattle.tree_steps.proofs.step.link_over.Goals as goal

pub link_prepared-requires-clause-watched : goal.link_prepared-requires-clause-watched
link_prepared-requires-clause-watched g c κs within = links_watched c.args.queues.now c.args.flight.now c.requires.here c.is_watched-watched.result (subst (λ k. is_watched_as c.args.flight.now.job.tree.number k (queue_at c.args.queues.now) c.is_watched-watched.result) c.key.ensures c.is_watched-watched.ensures)

pub link_prepared-requires-clause-pair : goal.link_prepared-requires-clause-pair
link_prepared-requires-clause-pair g c κs within = of_pair (option_map (λ o. g.M.MergeOperator.meant o.now) c.args.operator) c.args.flight.now c.requires.here c.in-Ok-Some.change (rw c.in-Ok-Some.field-0-is at c.in-Ok-Some.ensures.ok)

pub returns-in-Err-clause-kept : goal.returns-in-Err-clause-kept
returns-in-Err-clause-kept g c = c.nothing.ensures _ (unkept_refused _ _)

pub returns-in-Ok-None-clause-kept : goal.returns-in-Ok-None-clause-kept
returns-in-Ok-None-clause-kept g c = c.nothing-in-Ok-None.ensures _ (unkept_moved _)

pub returns-in-Err-of-clause-steps : goal.returns-in-Err-of-clause-steps
returns-in-Err-of-clause-steps g c = short (option_map (λ o. g.M.MergeOperator.meant o.now) c.args.operator) (g.P.Pages.store c.args.pages.now) c.args.flight.now c.requires.here c.in-Err-of.e c.in-Err-of.ensures.err.0 c.args.queues.now c.args.queues.now refl

pub returns-in-Err-of-clause-kept : goal.returns-in-Err-of-clause-kept
returns-in-Err-of-clause-kept g c = c.nothing-in-Err-of.ensures _ (unkept_refused _ _)

pub returns-in-Decided-clause-steps : goal.returns-in-Decided-clause-steps
returns-in-Decided-clause-steps g c = subst (λ w. AdvancesOver (option_map (λ o. g.M.MergeOperator.meant o.now) c.args.operator) (g.P.Pages.store c.args.pages.now) c.args.queues.now c.args.flight.now w (g.P.Pages.store c.link_prepared.new.pages) c.link_prepared.new.queues c.link_prepared.new.flight) c.in-Decided.is (c.link_prepared.ensures.is (option_map (λ o. g.M.MergeOperator.meant o.now) c.args.operator) (rw c.in-Ok-Some.field-0-is at c.in-Ok-Some.ensures.ok))

pub returns-in-Decided-clause-kept : goal.returns-in-Decided-clause-kept
returns-in-Decided-clause-kept g c = c.in-Ok.ensures.ok ∙ sym (ap (λ r. g.K.Keep.kept (Decided r)) (subst (replies_with c.in-Ok-Some.change.reply) c.in-Decided.is c.link_prepared.ensures.replies))

pub returns-in_default-clause-steps : goal.returns-in_default-clause-steps
returns-in_default-clause-steps g c = c.link_prepared.ensures.is (option_map (λ o. g.M.MergeOperator.meant o.now) c.args.operator) (rw c.in-Ok-Some.field-0-is at c.in-Ok-Some.ensures.ok)

pub returns-in_default-clause-kept : goal.returns-in_default-clause-kept
returns-in_default-clause-kept g c = c.nothing-in_default.ensures _ (unkept _ c.link_prepared.result c.in_default.not-Decided)
