-- The outcome of a step, and what is kept of it.
use Rattle.std.specs.Prelude.{Option, Some, None}
use Rattle.sled_model.specs.declared.reply.Reply.{Reply}
use Rattle.sled_model.specs.declared.outcome.Outcome.{Outcome}
use Rattle.sled_model.specs.declared.outcome.Outcome.TheVariants as outcome
use Rattle.sled_tree.specs.declared.flight.Went.{Went}
use Rattle.sled_tree.specs.declared.flight.Went.TheVariants.{Moved, Yielded, Decided, Refused}

abbrev pub outcome_of : Went → Outcome
outcome_of Moved = outcome.Moved
outcome_of (Yielded key value) = outcome.Yielded key value
outcome_of (Decided reply) = outcome.Decided reply
outcome_of (Refused e) = outcome.Refused e

-- what is kept of a step: two copies of the reply, if it decided the call
abbrev pub kept_of : Outcome → Option (Reply × Reply)
kept_of (outcome.Decided reply) = Some (reply, reply)
kept_of o = None
