-- What is at a key of a tree, and what leaves it there.
use Rattle.std.specs.Prelude.{◌≡◌, ◌≢◌, ◌⊎◌, ◌&&◌, Bool, List, map, Option}
use Rattle.std.specs.Str.{bytes_eq}
use Rattle.sled_nodes.specs.Order.{Key}
use Rattle.sled_model.specs.Answer.{key_of}
use Rattle.sled_model.specs.Maps.{Maps}
use Rattle.sled_model.specs.declared.call.Call.{Call}
use Rattle.sled_model.specs.declared.call.Call.TheVariants.{Get}
use Rattle.sled_model.specs.declared.tree.Tree.{Tree}
use Rattle.machine_shared.specs.History.{makes_as}
use Rattle.machine_shared.specs.Made.{MadeValue, PointMade, WholeMade, PartsMade, ReadMade, TransactionMade, EntryValue}
pub use Rattle.machine_shared.specs.Stood.{found_in}
use Rattle.machine_shared.specs.Wholes.{WholeValue, PopMin, PopMax, Clear, Group, DropTree, Import}

-- the value at a key of the tree of this name
abbrev pub value_at : Maps → Key → Key → Option Key
value_at maps tree key = found_in (maps tree) key

-- what was made in a history, in order
abbrev pub made_in : List EntryValue → List MadeValue
made_in history = map (λ e. e.made) history

-- this is the key, in the tree of this name
abbrev pub is_at : Key → Key → Tree → Key → Bool
is_at tree key t k = bytes_eq t.name tree && bytes_eq k key

-- made at whatever maps, it leaves what is at the key
abbrev pub Leaves : Key → Key → MadeValue → Type 0
Leaves tree key m = (old new : Maps) → makes_as old m new → value_at new tree key ≡ value_at old tree key

-- a read, or a call on another key or of another tree
abbrev pub point_passes : Key → Key → Tree → Call → Type 0
point_passes tree key t (Get k) = Unit {0}
point_passes tree key t call = (t.name ≢ tree) ⊎ (key_of call ≢ key)

-- a whole call that changes no pair, or those of another tree alone
abbrev pub whole_passes : Key → WholeValue → Type 0
whole_passes tree (PopMin t) = t.name ≢ tree
whole_passes tree (PopMax t) = t.name ≢ tree
whole_passes tree (Clear t) = t.name ≢ tree
whole_passes tree (Group batches) = ⊥
whole_passes tree (DropTree name) = name ≢ tree
whole_passes tree (Import all) = ⊥
whole_passes tree whole = Unit {0}

-- a call that passes the key by. Of groups, transactions and imports, and of calls that were refused after some parts, none is said to
abbrev pub passes_by : Key → Key → MadeValue → Type 0
passes_by tree key (PointMade t call reply) = point_passes tree key t call
passes_by tree key (WholeMade whole reply) = whole_passes tree whole
passes_by tree key (PartsMade whole number) = ⊥
passes_by tree key (ReadMade read) = Unit {0}
passes_by tree key (TransactionMade batches stood) = ⊥

-- what passes a key by leaves what is there
abbrev pub LeavesLaw : Type 0
LeavesLaw = (tree key : Key) (m : MadeValue) → passes_by tree key m → Leaves tree key m
