-- What the read of a call's value tells.
use Rattle.std.proofs.Common.{◌≡◌, ◌≢◌, Bool, true, false, cond, Option, Some, None, is_some, Ok, Err, refl, subst}
use Rattle.sled_nodes.proofs.Basics.{some_none}
use Rattle.sled_nodes.specs.Order.{Key}
use Rattle.sled_model.specs.Maps.{Merge as Operator}
use Rattle.sled_model.specs.Answer.{decision_of, effect_of_write, reply_of_read, read_decides_as}
use Rattle.sled_model.specs.State.{IsOnKey}
use Rattle.sled_model.specs.declared.call.Call.{Call}
use Rattle.sled_model.specs.declared.call.Call.TheVariants.{Get, Insert, Remove, CompareAndSwap, Merge, Scan}
use Rattle.sled_model.specs.declared.decision.Effect.TheVariants as effect
use Rattle.sled_model.specs.declared.reply.Reply.TheVariants.{Value, Swapped}
use Rattle.sled_model.proofs.Shapes.{same_value}

written : (new : Option Key) → effect_of_write new ≢ effect.Nothing
written None = λ e. cc
written (Some v) = λ e. cc

set : (v : Key) → effect.Set v ≢ effect.Nothing
set v = λ e. cc

removed : effect.Remove ≢ effect.Nothing
removed = λ e. cc

-- the call comes to what its read tells, by whatever operator
pub read_law : (operator : Option Operator) (call : Call) (value : Option Key) → read_decides_as (decision_of operator call value) (reply_of_read call value)
read_law operator (Get k) value = refl
read_law operator (Insert k v) value = go (same_value value (Some v))
  where
    go : (b : Bool) → read_decides_as (record { effect = cond b effect.Nothing (effect.Set v); reply = Value value }) (cond b (Some (Value value)) None)
    go true = refl
    go false = set v
read_law operator (Remove k) value = go (is_some value)
  where
    go : (b : Bool) → read_decides_as (record { effect = cond b effect.Remove effect.Nothing; reply = Value value }) (cond b None (Some (Value value)))
    go true = removed
    go false = refl
read_law operator (CompareAndSwap k old new) value = go (same_value value old)
  where
    go : (b : Bool) → read_decides_as (cond b (record { effect = effect_of_write new; reply = Swapped (Ok tt) }) (record { effect = effect.Nothing; reply = Swapped (Err (record { current = value; proposed = new })) })) (cond b None (Some (Swapped (Err (record { current = value; proposed = new })))))
    go true = written new
    go false = refl
read_law None (Merge k bytes) value = removed
read_law (Some operator) (Merge k bytes) value = written (operator k value bytes)
read_law operator (Scan lo hi back) value = refl

-- a call that has no reply yet has an effect
pub links_law : (operator : Option Operator) (call : Call) (value : Option Key) → reply_of_read call value ≡ None → (decision_of operator call value).effect ≢ effect.Nothing
links_law operator call value none = subst (read_decides_as (decision_of operator call value)) none (read_law operator call value)

-- .. and is on a key
pub links_on_key : (call : Call) (value : Option Key) → reply_of_read call value ≡ None → IsOnKey call
links_on_key (Get k) value none = refl
links_on_key (Insert k v) value none = refl
links_on_key (Remove k) value none = refl
links_on_key (CompareAndSwap k old new) value none = refl
links_on_key (Merge k bytes) value none = refl
links_on_key (Scan lo hi back) value none = some_none none
