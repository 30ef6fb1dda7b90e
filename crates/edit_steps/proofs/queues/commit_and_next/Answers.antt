use Rattle.std.proofs.Common.{ap, ◌∙◌}
use Rattle.sled_queues.specs.Values.{Waitings}
use Rattle.sled_queues.specs.Queues.{next_at, without_next_of}
use Rattle.edit_steps.proofs.queues.commit_and_next.Goals as goal

pub returns-clause-is : goal.returns-clause-is
returns-clause-is c = c.next.ensures.is ∙ ap (λ (q : Waitings). next_at (q c.args.subscriber.now)) c.commit.ensures.held

pub returns-clause-rest : goal.returns-clause-rest
returns-clause-rest c = record {
  held = c.next.ensures.rest.held ∙ ap (λ (q : Waitings). without_next_of c.args.subscriber.now q) c.commit.ensures.held;
  count = c.next.ensures.rest.count ∙ c.commit.ensures.count;
}
