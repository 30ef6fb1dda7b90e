-- What callers of a machine read and write.
use Rattle.std.specs.Prelude.{◌≡◌, ◌≢◌, Bool, Option, Some}
use Rattle.sled_nodes.specs.Order.{Key}
use Rattle.sled_model.specs.Maps.{Maps}
use Rattle.sled_model.specs.declared.reply.Reply.TheVariants.{Value}
use Rattle.sled_model.specs.declared.outcome.Outcome.{Outcome}
use Rattle.sled_model.specs.declared.outcome.Outcome.TheVariants.{Decided, Refused}
use Rattle.sled_model.specs.Refusal.{TellsTurns}
use Rattle.example_parts.specs.Reads.{found_in}

-- a call that was decided replied with this value
abbrev pub ReadsAs : Option Key → Outcome → Type 0
ReadsAs value (Decided reply) = reply ≡ Value value
ReadsAs value o = Unit {0}

-- the call was not refused for its turns
abbrev pub HasTurns : Outcome → Type 0
HasTurns (Refused e) = TellsTurns e → ⊥
HasTurns o = Unit {0}

-- which of two calls was decided last, after one more step of the one or the other
abbrev pub later : Outcome → Bool → Option Bool → Option Bool
later (Decided reply) is_second last = Some is_second
later o is_second last = last

-- the new maps are the old ones, but that this tree has this value at the key
pub record PutsOne (old new : Maps) (tree key value : Key) : Type 0 where
  pub here : found_in (new tree) key ≡ Some value
  pub keys : (other : Key) → other ≢ key → found_in (new tree) other ≡ found_in (old tree) other
  pub trees : (other : Key) → other ≢ tree → new other ≡ old other
