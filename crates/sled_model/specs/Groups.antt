-- What a group of writes makes of the state, and what becomes of a database whose group is refused midway.
use Rattle.std.specs.Prelude.{◌≡◌, ℕ, ◌⊎◌, false, List, [], ◌∷◌, ◌++◌, map, Option, Some, None, option_map}
use Rattle.std.specs.Option.{option_to_list}
use Rattle.sled_nodes.specs.Order.{Key}
use Rattle.sled_batch.specs.Batch.{Writes}
use Rattle.sled_store.specs.Store.{Store}
use Rattle.sled_nodes.specs.declared.error.Error.{Error}
use Rattle.sled_model.specs.Maps.{Maps, Merge}
use Rattle.sled_model.specs.Answer.{answer_of}
use Rattle.sled_model.specs.State.{State, NamedTree, maps_of, after_decision_on}
use Rattle.sled_model.specs.Refusal.{trees_of_batches, must_refuse_of, cause_of_walk, may_refuse_as}
use Rattle.sled_model.specs.declared.call.Call.{Call}
use Rattle.sled_model.specs.declared.call.Call.TheVariants.{Insert, Remove}
use Rattle.sled_model.specs.declared.event.Event.{Event}
use Rattle.sled_model.specs.declared.reply.Reply.{Reply}
use Rattle.sled_model.specs.declared.reply.Reply.TheVariants.{Done}
use Rattle.sled_model.specs.declared.tree.Tree.{Tree}

-- a write of a group: a key of a tree, and the value that it is to have, or none
pub record Write : Type 0 where
  pub tree : Tree
  pub key : Key
  pub value : Option Key

-- the writes of a batch on a tree
abbrev pub writes_on : Tree → Writes → List Write
writes_on tree writes = map (λ w. record { tree = tree; key = w.0; value = w.1 }) writes

-- the writes of a group: batch after batch in the order of the list, and of each batch in the order of the keys
abbrev pub writes_of : List (Tree × Writes) → List Write
writes_of [] = []
writes_of (b ∷ bs) = writes_on b.0 b.1 ++ writes_of bs

-- the call that a write is: an insert of its value, or a removal
abbrev pub call_with : Key → Option Key → Call
call_with key None = Remove key
call_with key (Some value) = Insert key value

-- A write is made as its call would be, with its event. There is a tree of its name, if the tests pass
abbrev pub after_write_on : Option NamedTree → Write → State → State
after_write_on None w s = s
after_write_on (Some t) w s = after_decision_on s w.tree.name t (answer_of t.merge (call_with w.key w.value) t.map)

-- Writes are made, one after the other
abbrev pub after_writes : List Write → State → State
after_writes [] s = s
after_writes (w ∷ ws) s = after_writes ws (after_write_on (s.trees w.tree.name) w s)

-- the event of a write, if it has one, with the number of its tree
abbrev pub events_of_write : Option NamedTree → Write → List (ℕ × Event)
events_of_write None w = []
events_of_write (Some t) w = map (λ e. (t.number, e)) (option_to_list (answer_of t.merge (call_with w.key w.value) t.map).event)

-- the events of writes that are made one after the other, in order
abbrev pub events_of_writes : List Write → State → List (ℕ × Event)
events_of_writes [] s = []
events_of_writes (w ∷ ws) s = events_of_write (s.trees w.tree.name) w ++ events_of_writes ws (after_write_on (s.trees w.tree.name) w s)

-- A group is decided: all its writes are made at once, and a crash may leave one map more
pub record DecidesGroup (old : State) (batches : List (Tree × Writes)) (reply : Reply) (new : State) (maps : List Maps) : Type 0 where
  pub free : must_refuse_of old (trees_of_batches batches) ≡ None
  pub replies : reply ≡ Done
  pub is : new ≡ after_writes (writes_of batches) old
  pub added : maps ≡ maps_of new ∷ []

-- A database is closed. Nothing is said of its maps, and all else is as it was, the numbers of trees and their merge operators too
pub record Closes (old new : State) : Type 0 where
  pub trees : Key → Option NamedTree
  pub tags : (name : Key) → option_map {U = ℕ × Option Merge} (λ t. (t.number, t.merge)) (trees name) ≡ option_map {U = ℕ × Option Merge} (λ t. (t.number, t.merge)) (old.trees name)
  pub is : new ≡ record old { trees = trees; is_open = false }

-- A group is refused, and nothing changes; or it was refused midway, if no test failed, and then the database is closed
pub record StopsGroup (old : State) (a b : Store) (batches : List (Tree × Writes)) (e : Error) (new : State) (maps : List Maps) : Type 0 where
  pub why : may_refuse_as (must_refuse_of old (trees_of_batches batches)) (cause_of_walk a b) e
  pub is : (new ≡ old) ⊎ ((must_refuse_of old (trees_of_batches batches) ≡ None) × Closes old new)
  pub added : maps ≡ []
