-- Of Outcomes, for proofs.
use Rattle.std.specs.Prelude.{◌≡◌, ◌⊎◌, Bool, true, false}
use Rattle.sled_nodes.specs.declared.error.Error.TheVariants.{NoMemory}
use Rattle.sled_model.specs.declared.outcome.Outcome.{Outcome}
use Rattle.sled_model.specs.declared.outcome.Outcome.TheVariants as outcome
use Rattle.sled_model.specs.declared.reply.Reply.{Reply}
use Rattle.sled_model.specs.declared.reply.Reply.TheVariants as reply
use Rattle.sled_tree.specs.declared.flight.Went.{Went}
use Rattle.sled_tree.specs.declared.flight.Went.TheVariants.{Decided, Refused}

-- the reply owns no memory, so that a copy of it takes none
abbrev pub is_light : Reply → Bool
is_light (reply.Number n) = true
is_light reply.End = true
is_light reply.Done = true
is_light (reply.Flag is) = true
is_light (reply.Subscriber n) = true
is_light other = false

-- a step comes out as it went, or it was decided and there is no memory to keep its reply
abbrev pub ComesOut : Went → Went → Type 0
ComesOut went kept = (kept ≡ went) ⊎ ((r : Reply) × (went ≡ Decided r) × (is_light r ≡ false) × (kept ≡ Refused NoMemory))

-- no reply is kept: of no step, or of one that does not decide its call
abbrev pub IsUnkept : Bool → Outcome → Type 0
IsUnkept false o = Unit {0}
IsUnkept true (outcome.Decided reply) = ⊥
IsUnkept true o = Unit {0}
