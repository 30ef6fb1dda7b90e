-- Histories that one caller could have made.
use Rattle.std.specs.Prelude.{◌≡◌, ℕ, nat_eq, List, [], ◌∷◌, ◌++◌, Option, Some, None, map, filter}
use Rattle.std.specs.FinMap.Entries.{find}
use Rattle.sled_nodes.specs.Order.{Key, key_cmp}
use Rattle.sled_store.specs.Update.{put_name}
use Rattle.sled_model.specs.Maps.{Map, Maps}
use Rattle.sled_model.specs.Answer.{key_of, decision_of, effect_of_write, map_after}
use Rattle.sled_model.specs.declared.call.Call.{Call}
use Rattle.sled_model.specs.declared.call.Call.TheVariants.{Merge}
use Rattle.sled_model.specs.declared.decision.Decision.{Decision}
use Rattle.sled_model.specs.declared.reply.Reply.{Reply}
use Rattle.sled_model.specs.declared.reply.Reply.TheVariants.{Number, Done, Value}
use Rattle.sled_model.specs.declared.tree.Tree.{Tree}
use Rattle.machine_shared.specs.Wholes.{WholeValue, Group, GenerateId}
use Rattle.machine_shared.specs.Made.{MadeValue, PointMade, WholeMade, PartsMade, ReadMade, TransactionMade, EntryValue}
pub use Rattle.machine_shared.specs.Openings.{maps_from}
use Rattle.machine_shared.specs.Reads.{reads_as}
use Rattle.machine_shared.specs.Stood.{stood_in}
use Rattle.machine_shared.specs.WholeMade.{makes_whole_as, makes_parts_as}

-- How a call may be decided if this value is there: a merge writes what its reply says, and all others are decided as they are by any
-- operator
abbrev pub comes_to : Call → Option Key → Decision → Type 0
comes_to (Merge k bytes) value d = (new : Option Key) × (d ≡ record { effect = effect_of_write new; reply = Value new })
comes_to call value d = d ≡ decision_of None call value

-- a call on a key, made at these maps, replies so and leaves those
pub record MakesPoint (old : Maps) (tree : Tree) (call : Call) (reply : Reply) (new : Maps) : Type 0 where
  pub map : Map
  pub there : old tree.name ≡ Some map
  pub decision : Decision
  pub comes : comes_to call (find key_cmp (key_of call) map) decision
  pub replies : reply ≡ decision.reply
  pub is : new ≡ put_name old tree.name (Some (map_after decision.effect (key_of call) map))

-- what was made at these maps leaves those. A transaction is the group that it wrote, and it notes what was at the keys of its writes
abbrev pub makes_as : Maps → MadeValue → Maps → Type 0
makes_as old (PointMade tree call reply) new = MakesPoint old tree call reply new
makes_as old (WholeMade whole reply) new = makes_whole_as old whole reply new
makes_as old (PartsMade whole number) new = makes_parts_as old whole number new
makes_as old (ReadMade read) new = reads_as old read × (new ≡ old)
makes_as old (TransactionMade batches stood) new = (stood ≡ stood_in old batches) × makes_whole_as old (Group batches) Done new

-- From the old maps on each entry is what its call makes there, and the maps after the last are the new ones
pub data IsLegal : Maps → List EntryValue → Maps → Type 0 where
  NoEntries : {m : Maps} → IsLegal m [] m
  OneEntry : {a m b : Maps} {e : EntryValue} {es : List EntryValue} → makes_as a e.made m → IsLegal m es b → IsLegal a (e ∷ es) b

-- the id that a whole call gave, if it gave one
abbrev pub id_given : WholeValue → Reply → List ℕ
id_given GenerateId (Number id) = id ∷ []
id_given whole reply = []

-- the id that was given, if one was
abbrev pub id_made : MadeValue → List ℕ
id_made (PointMade tree call reply) = []
id_made (WholeMade whole reply) = id_given whole reply
id_made (PartsMade whole number) = []
id_made (ReadMade read) = []
id_made (TransactionMade batches stood) = []

-- the ids that were given, in order
abbrev pub ids_made : List EntryValue → List ℕ
ids_made [] = []
ids_made (e ∷ es) = id_made e.made ++ ids_made es

-- what the caller of this number made, in order
abbrev pub made_by : ℕ → List EntryValue → List MadeValue
made_by n es = map (λ e. e.made) (filter (λ e. nat_eq e.by n) es)
