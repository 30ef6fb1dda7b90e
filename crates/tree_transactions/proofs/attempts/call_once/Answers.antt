use Rattle.std.proofs.Common.{sym}
use Rattle.tree_transactions.proofs.attempts.call_once.Goals as goal

pub returns : goal.returns
returns g c = record {
  shown = c.call-answer.ensures.shown;
  shows = c.call-answer.ensures.shows;
  told = c.call-answer.result;
  left = c.call-answer.ensures.left;
  met = c.call-answer.ensures.met;
  tells = sym c.into_result.ensures;
  leaves = c.call-answer.ensures.leaves;
}
