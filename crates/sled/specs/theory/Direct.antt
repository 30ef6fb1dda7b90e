-- Of Direct, for proofs. Calls that are made at once, in no slot.
use Rattle.std.specs.Prelude.{◌≡◌, ℕ, Option, None, Result}
use Rattle.sled_nodes.specs.Order.{Key}
use Rattle.sled_model.specs.Answer.{key_of, reply_of_read}
use Rattle.sled_model.specs.declared.call.Call.{Call}
use Rattle.sled_model.specs.declared.reply.Reply.{Reply}
use Rattle.sled_model.specs.declared.reply.Reply.TheVariants.{Value, Swapped}
use Rattle.sled_model.specs.declared.reply.CompareAndSwapError.{CompareAndSwapError}
use Rattle.sled_queues.specs.Values.{Waitings}
use Rattle.sled_queues.specs.Tells.{IsUnwatched}

-- the reply is a value, or that there is none
pub record IsValue (reply : Reply) : Type 0 where
  pub value : Option Key
  pub is : reply ≡ Value value

-- the reply is how a swap came out
pub record IsSwap (reply : Reply) : Type 0 where
  pub swap : Result (Unit {0}) CompareAndSwapError
  pub is : reply ≡ Swapped swap

-- the call links nothing, or no queue waits for what happens to its key
pub record TellsNobody (queues : Waitings) (tree : ℕ) (call : Call) : Type 0 where
  pub is : (value : Option Key) → reply_of_read call value ≡ None → IsUnwatched tree (key_of call) queues
