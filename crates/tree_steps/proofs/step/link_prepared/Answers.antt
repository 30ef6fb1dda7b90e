use Rattle.std.proofs.Common.{refl, subst}
use Rattle.sled_tree.specs.theory.Linking.{replies_with}
use Rattle.tree_steps.specs.theory.Watched.{links_watched_as}
use Rattle.tree_steps.proofs.Watching.{linked, unlinked}
use Rattle.tree_steps.proofs.KeptSteps.{told_short, told_alone}
use Rattle.tree_steps.proofs.step.link_prepared.Goals as goal

pub returns-then-not-watched : goal.returns-then-not-watched
returns-then-not-watched g c = told_alone c.args.change (g.P.Pages.store c.args.pages.now) c.args.flight.now _ _ c.args.queues.now c.requires.calm (subst (links_watched_as c.args.queues.now c.args.flight.now) c.if-not-watched.true c.requires.watched) _ c.link_change.ensures

pub returns-in-Err : goal.returns-in-Err
returns-in-Err g c = told_short c.args.change (g.P.Pages.store c.args.pages.now) c.args.flight.now c.requires.here c.in-Err.e c.in-Err.ensures.err c.args.queues.now c.args.queues.now refl

pub returns-in-Err-prepare : goal.returns-in-Err-prepare
returns-in-Err-prepare g c = told_short c.args.change (g.P.Pages.store c.args.pages.now) c.args.flight.now c.requires.here c.in-Err-prepare.e c.in-Err-prepare.ensures.cause c.args.queues.now c.prepare.new.self c.in-Err-prepare.ensures.err

pub returns-in-Decided : goal.returns-in-Decided
returns-in-Decided g c = record {
  is = λ operator p. linked operator (g.P.Pages.store c.args.pages.now) c.args.flight.now c.requires.here c.args.change p c.in-Ok.event c.in-Ok.ensures.ok c.args.queues.now c.prepare.new.self c.in_default.ensures.ok _ _ _ _ c.in-Decided.is c.link_change-2.ensures _ c.commit.ensures;
  replies = subst (replies_with c.args.change.reply) c.in-Decided.is c.link_change-2.ensures.replies;
}

pub returns-in_default-link_change : goal.returns-in_default-link_change
returns-in_default-link_change g c = record {
  is = λ operator p. unlinked operator (g.P.Pages.store c.args.pages.now) c.args.flight.now c.requires.here c.args.change p c.in-Ok.event c.in-Ok.ensures.ok c.args.queues.now c.prepare.new.self c.in_default.ensures.ok c.requires.calm _ _ _ c.in_default-link_change.not-Decided c.link_change-2.ensures _ c.cancel.ensures;
  replies = c.link_change-2.ensures.replies;
}
