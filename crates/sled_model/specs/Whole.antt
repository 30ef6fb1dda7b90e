-- What whole calls make of the state.
use Rattle.std.specs.Prelude.{◌≡◌, ◌≢◌, ℕ, zero, suc, ◌+◌, ◌≤◌, ◌⊎◌, Bool, true, false, List, [], ◌∷◌, Option, Some, None, is_some, is_none, option_map}
use Rattle.sled_nodes.specs.Order.{Key}
use Rattle.sled_store.specs.Store.{Store}
use Rattle.sled_store.specs.Update.{put_at, put_name}
use Rattle.sled_nodes.specs.declared.error.Error.{Error}
use Rattle.sled_model.specs.Maps.{Map, Maps, Merge}
use Rattle.sled_model.specs.Answer.{answer_of}
use Rattle.sled_model.specs.Backlog.{no_backlog, next_of}
use Rattle.sled_model.specs.State.{State, NamedTree, default_name, maps_of, after_decision_on}
use Rattle.sled_model.specs.Queues.{backlog_in, without_next}
use Rattle.sled_model.specs.Refusal.{ToPoint, ToCall, ToSetOperator, must_refuse, MayRefuse}
use Rattle.sled_model.specs.Ids.{mark_above}
use Rattle.sled_model.specs.Collections.{contents_of}
use Rattle.sled_model.specs.declared.call.Call.{Call}
use Rattle.sled_model.specs.declared.call.Call.TheVariants.{Remove}
use Rattle.sled_model.specs.declared.call.Whole.{Whole}
use Rattle.sled_model.specs.declared.call.Whole.TheVariants.{Clear, Group, OpenTree, DropTree, GenerateId, Import, Watch}
use Rattle.sled_model.specs.declared.event.Next as event
use Rattle.sled_model.specs.declared.tree.Tree.{Tree}
use Rattle.sled_model.specs.declared.reply.Reply.{Reply}
use Rattle.sled_model.specs.declared.reply.Reply.TheVariants.{Pair, Number, Flag}
use Rattle.sled_model.specs.declared.reply.Reply.TheVariants as told

-- A call on a tree, made at once and in no slot, replies, changes the tree's map and fills the queues by the answer on the map now
pub record DecidesPoint (old : State) (tree : Tree) (call : Call) (reply : Reply) (new : State) : Type 0 where
  pub free : must_refuse old (ToPoint tree call) ≡ None
  pub named : NamedTree
  pub there : old.trees tree.name ≡ Some named
  pub replies : reply ≡ (answer_of named.merge call named.map).reply
  pub is : new ≡ after_decision_on old tree.name named (answer_of named.merge call named.map)

-- it is refused, with its cause, and nothing changes
pub record RefusesPoint (old : State) (a b : Store) (tree : Tree) (call : Call) (e : Error) (new : State) : Type 0 where
  pub may : MayRefuse old a b (ToPoint tree call) e
  pub is : new ≡ old

-- A tree has this operator from now on, and all else is as it was
pub record SetsOperator (old : State) (tree : Tree) (merge : Merge) (new : State) : Type 0 where
  pub free : must_refuse old (ToSetOperator tree) ≡ None
  pub named : NamedTree
  pub there : old.trees tree.name ≡ Some named
  pub is : new ≡ record old { trees = put_name old.trees tree.name (Some (record named { merge = Some merge })) }

-- A tree has a subscriber more, to the keys that begin with a prefix: it has the next number, which no queue has, and nothing waits for
-- it yet
pub record Watches (old : State) (tree : Tree) (prefix : Key) (number : ℕ) (new : State) : Type 0 where
  pub free : must_refuse old (ToCall (Watch tree prefix)) ≡ None
  pub next : number ≡ old.subscribers_given + 1
  pub fresh : old.queues number ≡ None
  pub is : new ≡ record old { queues = put_at old.queues number (Some (record { tree = tree.number; prefix = prefix; backlog = no_backlog })); subscribers_given = number }

-- A subscriber gets the number of events that it missed, or else takes the oldest event that waits for it, if one does, and all else is as
-- it was
pub record TakesNext (old : State) (subscriber : ℕ) (next : Option event.Next) (new : State) : Type 0 where
  pub gives : next ≡ next_of (backlog_in (old.queues subscriber))
  pub is : new ≡ record old { queues = put_at old.queues subscriber (option_map without_next (old.queues subscriber)) }

-- the state after this pair of the tree was taken out, if there is one
abbrev pub after_pop : State → Key → NamedTree → Option (Key × Key) → State
after_pop s name t None = s
after_pop s name t (Some pair) = after_decision_on s name t (answer_of t.merge (Remove pair.0) t.map)

-- a pop takes out the pair at one end, with its event, and replies with it
pub record Pops (is_end : Map → Option (Key × Key) → Type 0) (old : State) (whole : Whole) (tree : Tree) (reply : Reply) (new : State) (maps : List Maps) : Type 0 where
  pub free : must_refuse old (ToCall whole) ≡ None
  pub named : NamedTree
  pub there : old.trees tree.name ≡ Some named
  pub found : Option (Key × Key)
  pub ends : is_end named.map found
  pub replies : reply ≡ Pair found
  pub is : new ≡ after_pop old tree.name named found
  pub added : maps ≡ maps_of new ∷ []

-- So many keys of a tree were removed, each the least of those that were left, each with its event, and these are the maps after each
pub data RemovesLeast (tree : Tree) : State → ℕ → State → List Maps → Type 0 where
  RemovesNone : {s : State} → RemovesLeast tree s zero s []
  RemovesOne : {a b : State} {n : ℕ} {maps : List Maps} (named : NamedTree) (pair : Key × Key) (rest : Map) → a.trees tree.name ≡ Some named → named.map ≡ pair ∷ rest
      → RemovesLeast tree (after_decision_on a tree.name named (answer_of named.merge (Remove pair.0) named.map)) n b maps
      → RemovesLeast tree a (suc n) b (maps_of (after_decision_on a tree.name named (answer_of named.merge (Remove pair.0) named.map)) ∷ maps)

-- a clear removes all keys of a tree, from the least up
pub record Clears (old : State) (tree : Tree) (new : State) (maps : List Maps) : Type 0 where
  pub free : must_refuse old (ToCall (Clear tree)) ≡ None
  pub parts : ℕ
  pub removes : RemovesLeast tree old parts new maps
  pub named : NamedTree
  pub there : new.trees tree.name ≡ Some named
  pub none : named.map ≡ []

-- refused midway, it has removed the first ones, and the next part was refused. Nothing is removed if a test refuses it at its begin
pub record StopsClearing (old : State) (a b : Store) (tree : Tree) (e : Error) (new : State) (maps : List Maps) : Type 0 where
  pub parts : ℕ
  pub tested : (parts ≡ zero) ⊎ (must_refuse old (ToCall (Clear tree)) ≡ None)
  pub removes : RemovesLeast tree old parts new maps
  pub may : MayRefuse new a b (ToCall (Clear tree)) e

-- the number of a name's tree, if there is one, and else of a new one
abbrev pub number_opened : Option NamedTree → State → ℕ
number_opened (Some t) s = t.number
number_opened None s = s.trees_given + 1

-- the state after a name was opened, which had this tree. A new one has the next number, an empty map, and no merge operator
abbrev pub state_opened : Option NamedTree → State → Key → State
state_opened (Some t) s name = s
state_opened None s name = record s { trees = put_name s.trees name (Some (record { number = s.trees_given + 1; map = []; merge = None })); trees_given = s.trees_given + 1 }

-- the maps that a change of trees adds, if there is one: those after it
abbrev pub maps_if : Bool → State → List Maps
maps_if false new = []
maps_if true new = maps_of new ∷ []

-- A name is opened: the reply is its tree, which is a new one if it had none
pub record OpensTree (old : State) (name : Key) (reply : Reply) (new : State) (maps : List Maps) : Type 0 where
  pub free : must_refuse old (ToCall (OpenTree name)) ≡ None
  pub replies : reply ≡ told.Tree (record { database = old.name; name = name; number = number_opened (old.trees name) old })
  pub is : new ≡ state_opened (old.trees name) old name
  pub added : maps ≡ maps_if (is_none (old.trees name)) new

-- the state after a name was dropped, which had this tree
abbrev pub state_dropped : Option NamedTree → State → Key → State
state_dropped (Some t) s name = record s { trees = put_name s.trees name None }
state_dropped None s name = s

-- A name is dropped, which is not the default tree's: the reply is whether it had a tree, and it has none from now on
pub record DropsTreeOf (old : State) (name : Key) (reply : Reply) (new : State) (maps : List Maps) : Type 0 where
  pub free : must_refuse old (ToCall (DropTree name)) ≡ None
  pub off : name ≢ default_name
  pub replies : reply ≡ Flag (is_some (old.trees name))
  pub is : new ≡ state_dropped (old.trees name) old name
  pub added : maps ≡ maps_if (is_some (old.trees name)) new

-- An id is taken: it is one above the greatest that was given, and set aside
pub record GeneratesId (old : State) (reply : Reply) (new : State) (maps : List Maps) : Type 0 where
  pub free : must_refuse old (ToCall GenerateId) ≡ None
  pub replies : reply ≡ Number (old.greatest_id + 1)
  pub aside : old.greatest_id + 1 ≤ new.mark
  pub is : new ≡ record old { greatest_id = old.greatest_id + 1; mark = mark_above old.greatest_id old.mark }
  pub added : maps ≡ []

-- two whole calls are the same: imports hold the same collections, and groups the same batches, wherever their vectors are in memory
abbrev pub is_same_whole : Whole → Whole → Type 0
is_same_whole (Import a) (Import b) = contents_of a.items ≡ contents_of b.items
is_same_whole (Import a) b = ⊥
is_same_whole (Group a) (Group b) = a.items ≡ b.items
is_same_whole (Group a) b = ⊥
is_same_whole a b = a ≡ b

pub record IsSameWhole (a b : Whole) : Type 0 where
  pub is : is_same_whole a b
