-- Jobs that threads put into a tree, each at the key of an id, and take out from the front.
use Rattle.std.specs.Prelude.{◌≡◌, ◌⊎◌, ℕ, List, [], ◌∷◌, ◌++◌, Some}
use Rattle.std.specs.Int.{w64, to_be_bytes}
use Rattle.std.specs.List.{AllByRecursion}
use Rattle.sled_nodes.specs.Order.{Key}
use Rattle.sled_model.specs.Maps.{Maps}
use Rattle.sled_model.specs.declared.call.Call.TheVariants.{Insert}
use Rattle.sled_model.specs.declared.outcome.Outcome.{Outcome}
use Rattle.sled_model.specs.declared.outcome.Outcome.TheVariants.{Decided}
use Rattle.sled_model.specs.declared.reply.Reply.{Reply}
use Rattle.sled_model.specs.declared.reply.Reply.TheVariants.{Number, Pair}
use Rattle.sled_model.specs.declared.tree.Tree.{Tree}
use Rattle.machine_shared.specs.History.{IsLegal}
use Rattle.machine_shared.specs.Made.{MadeValue, PointMade, WholeMade, EntryValue}
use Rattle.machine_shared.specs.Wholes.{WholeValue, PopMin, GenerateId}
use Rattle.example_shared.specs.Places.{value_at, made_in, Leaves}

-- what is noted of a whole call: the call with its reply if it is decided, and else nothing
abbrev pub noted_of_whole : Outcome → WholeValue → List MadeValue
noted_of_whole (Decided reply) whole = WholeMade whole reply ∷ []
noted_of_whole o whole = []

-- an id was added to a list, and an insert of the job at its eight bytes, the highest first
pub record Pushes (queue : Tree) (job : Key) (id : ℕ) (made more : List MadeValue) : Type 0 where
  pub reply : Reply
  pub adds : more ≡ made ++ WholeMade GenerateId (Number id) ∷ PointMade queue (Insert (to_be_bytes w64 id) job) reply ∷ []

-- nothing was added to a list but an id, if one was given
abbrev pub PushesNone : List MadeValue → List MadeValue → Type 0
PushesNone made more = (more ≡ made) ⊎ ((reply : Reply) × (more ≡ made ++ WholeMade GenerateId reply ∷ []))

-- an insert of this value at the key of a tree of this name
abbrev pub IsInsert : Key → Key → Key → MadeValue → Type 0
IsInsert tree key value (PointMade t (Insert k v) reply) = (t.name ≡ tree) × (k ≡ key) × (v ≡ value)
IsInsert tree key value m = ⊥

-- .. and of whatever value
abbrev pub IsInsertAt : Key → Key → MadeValue → Type 0
IsInsertAt tree key m = (value : Key) × IsInsert tree key value m

-- a pop of the first pair of a tree of this name, which was this one
abbrev pub IsTake : Key → Key → Key → MadeValue → Type 0
IsTake tree key value (WholeMade (PopMin t) reply) = (t.name ≡ tree) × (reply ≡ Pair (Some (key, value)))
IsTake tree key value m = ⊥

-- an insert, or a pop of a first pair
abbrev pub IsPushOrTake : MadeValue → Type 0
IsPushOrTake (PointMade t (Insert k v) reply) = Unit {0}
IsPushOrTake (WholeMade (PopMin t) reply) = Unit {0}
IsPushOrTake m = ⊥

-- some of these is so
abbrev pub Has : (MadeValue → Type 0) → List MadeValue → Type 0
Has P [] = ⊥
Has P (m ∷ made) = P m ⊎ Has P made

-- What was taken was there from the beginning, or was inserted before; and between two takes of one key what the second took was inserted
-- there
pub record TakesOnce (old : Maps) (tree : Key) (made : List MadeValue) : Type 0 where
  pub put : (before after : List MadeValue) (key value : Key) (take : MadeValue) → made ≡ before ++ take ∷ after → IsTake tree key value take
      → (value_at old tree key ≡ Some value) ⊎ Has (IsInsert tree key value) before
  pub again : (before between after : List MadeValue) (key first second : Key) (take other : MadeValue) → made ≡ before ++ take ∷ between ++ other ∷ after → IsTake tree key first take → IsTake tree key second other
      → Has (IsInsert tree key second) between

-- What was there from the beginning or was inserted is at the end, unless it was taken or another was inserted at its key
pub record LosesNone (old new : Maps) (tree : Key) (made : List MadeValue) : Type 0 where
  pub stood : (key value : Key) → value_at old tree key ≡ Some value → (value_at new tree key ≡ Some value) ⊎ Has (λ m. IsTake tree key value m ⊎ IsInsertAt tree key m) made
  pub put : (before after : List MadeValue) (key value : Key) (insert : MadeValue) → made ≡ before ++ insert ∷ after → IsInsert tree key value insert
      → (value_at new tree key ≡ Some value) ⊎ Has (λ m. IsTake tree key value m ⊎ IsInsertAt tree key m) after

-- Of a legal history in which each call is an insert, a pop of a first pair, or leaves all keys of the tree
abbrev pub QueueLaw : Type 0
QueueLaw = (old new : Maps) (tree : Key) (history : List EntryValue) → IsLegal old history new
    → AllByRecursion (λ m. IsPushOrTake m ⊎ ((key : Key) → Leaves tree key m)) (made_in history)
    → TakesOnce old tree (made_in history) × LosesNone old new tree (made_in history)
