-- A number at a key, to which threads add one by merges.
use Rattle.std.specs.Prelude.{◌≡◌, ◌⊎◌, ℕ, List, [], ◌∷◌, ◌++◌, Option, if◌then◌else◌}
use Rattle.std.specs.Int.{w64, to_be_bytes}
use Rattle.std.specs.List.{AllByRecursion}
use Rattle.sled_nodes.specs.Order.{Key}
use Rattle.sled_model.specs.Maps.{Maps}
use Rattle.sled_model.specs.declared.call.Call.TheVariants.{Get, Merge}
use Rattle.sled_model.specs.declared.reply.Reply.TheVariants.{Value}
use Rattle.sled_model.specs.declared.tree.Tree.{Tree}
use Rattle.machine_shared.specs.History.{IsLegal}
use Rattle.machine_shared.specs.Made.{MadeValue, PointMade, EntryValue}
use Rattle.example_parts.specs.Counters.{number_in}
use Rattle.example_shared.specs.Places.{value_at, made_in, is_at, Leaves}

-- a merge of one was added to a list, with a reply of this number
pub record AddsOne (tree : Tree) (key : Key) (n : ℕ) (made more : List MadeValue) : Type 0 where
  pub value : Option Key
  pub told : n ≡ number_in value
  pub adds : more ≡ made ++ PointMade tree (Merge key (to_be_bytes w64 1)) (Value value) ∷ []

-- a merge at the key, of whatever bytes
abbrev pub IsMergeAt : Key → Key → MadeValue → Type 0
IsMergeAt tree key (PointMade t (Merge k bytes) reply) = (t.name ≡ tree) × (k ≡ key)
IsMergeAt tree key m = ⊥

-- the value that a merge at the key replied
abbrev pub merged_by : Key → Key → MadeValue → List (Option Key)
merged_by tree key (PointMade t (Merge k bytes) (Value value)) = if is_at tree key t k then (value ∷ []) else []
merged_by tree key m = []

-- the values that the merges at the key replied, in order
abbrev pub merged : Key → Key → List MadeValue → List (Option Key)
merged tree key [] = []
merged tree key (m ∷ made) = merged_by tree key m ++ merged tree key made

-- the last of these values, or else the one before them
abbrev pub last_of : Option Key → List (Option Key) → Option Key
last_of before [] = before
last_of before (value ∷ values) = last_of value values

-- What is at the key at the end is what the last merge replied, and a read replied what the last merge before it did
pub record ShowsMerges (old new : Maps) (tree key : Key) (made : List MadeValue) : Type 0 where
  pub ends : value_at new tree key ≡ last_of (value_at old tree key) (merged tree key made)
  pub reads : (before after : List MadeValue) (t : Tree) (value : Option Key) → made ≡ before ++ PointMade t (Get key) (Value value) ∷ after → t.name ≡ tree
      → value ≡ last_of (value_at old tree key) (merged tree key before)

-- Of a legal history in which each call is a merge at the key, or leaves what is there
abbrev pub MergesLaw : Type 0
MergesLaw = (old new : Maps) (tree key : Key) (history : List EntryValue) → IsLegal old history new
    → AllByRecursion (λ m. IsMergeAt tree key m ⊎ Leaves tree key m) (made_in history) → ShowsMerges old new tree key (made_in history)
