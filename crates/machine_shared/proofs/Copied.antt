-- Calls whose copies come along.
use Rattle.std.proofs.Common.{◌≡◌, Some}
use Rattle.sled_nodes.proofs.Basics.{none_some}
use Rattle.sled_model.specs.declared.reply.Reply.{Reply}
use Rattle.sled_model.specs.declared.outcome.Outcome.{Outcome}
use Rattle.sled_model.specs.declared.outcome.Outcome.TheVariants as outcome
use Rattle.tree_steps.specs.Outcomes.{kept_of}
use Rattle.machine_shared.specs.Notes.{IsEnd}

-- where a reply is kept the call has ended
pub kept_ends : (o : Outcome) (kept : Reply × Reply) → kept_of o ≡ Some kept → IsEnd o
kept_ends (outcome.Decided reply) kept e = tt
kept_ends other kept e = none_some e
