-- What whole calls make of the maps.
use Rattle.std.specs.Prelude.{◌≡◌, ◌≢◌, ℕ, Bool, true, All, zero, suc, List, [], ◌∷◌, ◌++◌, length, Option, Some, None, is_some}
use Rattle.std.specs.FinMap.Entries.{put, find}
use Rattle.sled_nodes.specs.Order.{Key, key_cmp}
use Rattle.sled_batch.specs.Batch.{Writes}
use Rattle.sled_store.specs.Update.{put_name}
use Rattle.sled_model.specs.Maps.{Map, Maps, IsLeast, IsGreatest}
use Rattle.sled_model.specs.Answer.{answer_of}
use Rattle.sled_model.specs.Collections.{Content, are_trees}
use Rattle.sled_model.specs.Groups.{Write, writes_of, call_with}
use Rattle.sled_model.specs.Imports.{Part, OpensName, Puts, parts_of}
use Rattle.sled_model.specs.declared.call.Call.{Call}
use Rattle.sled_model.specs.declared.call.Call.TheVariants.{Remove}
use Rattle.sled_model.specs.declared.event.Next as event
use Rattle.sled_model.specs.declared.tree.Tree.{Tree}
use Rattle.sled_model.specs.declared.reply.Reply.{Reply}
use Rattle.sled_model.specs.State.{default_name}
use Rattle.sled_model.specs.declared.reply.Reply.TheVariants.{Pair, Flag, Number, Done}
use Rattle.sled_model.specs.declared.reply.Reply.TheVariants as told
use Rattle.sled.specs.Parts.{told_parts}
use Rattle.machine_shared.specs.Wholes.{WholeValue, Flush, PopMin, PopMax, Clear, Group, OpenTree, DropTree, GenerateId, Import, Watch, Next, Unsubscribe}

-- the map after a removal or an insert was made there, which needs no operator
abbrev pub map_with : Call → Map → Map
map_with call map = (answer_of None call map).map

-- the map after a pair was taken out, if there is one
abbrev pub map_popped : Option (Key × Key) → Map → Map
map_popped None map = map
map_popped (Some pair) map = map_with (Remove pair.0) map

-- A pop takes out the pair at one end of a tree's map, and returns it; of an empty map it returns none
pub record MakesPop (is_end : Map → Option (Key × Key) → Type 0) (old : Maps) (tree : Tree) (reply : Reply) (new : Maps) : Type 0 where
  pub map : Map
  pub there : old tree.name ≡ Some map
  pub found : Option (Key × Key)
  pub ends : is_end map found
  pub replies : reply ≡ Pair found
  pub is : new ≡ put_name old tree.name (Some (map_popped found map))

-- a clear leaves an empty map
pub record MakesClear (old : Maps) (tree : Tree) (reply : Reply) (new : Maps) : Type 0 where
  pub map : Map
  pub there : old tree.name ≡ Some map
  pub replies : reply ≡ Done
  pub is : new ≡ put_name old tree.name (Some [])

-- the tree of a batch has a map
abbrev pub HasMap : Maps → Tree × Writes → Type 0
HasMap old batch = is_some (old batch.0.name) ≡ true

-- a write is made in the map of its tree, as its insert or its removal would be
abbrev pub maps_with_write : Option Map → Write → Maps → Maps
maps_with_write None w maps = maps
maps_with_write (Some map) w maps = put_name maps w.tree.name (Some (map_with (call_with w.key w.value) map))

-- .. and all these are, one after the other
abbrev pub maps_with_writes : List Write → Maps → Maps
maps_with_writes [] maps = maps
maps_with_writes (w ∷ ws) maps = maps_with_writes ws (maps_with_write (maps w.tree.name) w maps)

-- a name that has no map gets an empty one
abbrev pub maps_opened : Option Map → Key → Maps → Maps
maps_opened (Some map) name maps = maps
maps_opened None name maps = put_name maps name (Some [])

-- so many keys of a tree were removed, each the least of those that were left
pub data TakesLeast (name : Key) : Maps → ℕ → Maps → Type 0 where
  TakesNone : {a : Maps} → TakesLeast name a zero a
  TakesOne : {a b : Maps} {n : ℕ} (pair : Key × Key) (rest : Map) → a name ≡ Some (pair ∷ rest)
      → TakesLeast name (put_name a name (Some (map_with (Remove pair.0) (pair ∷ rest)))) n b → TakesLeast name a (suc n) b

-- a pair is put into the map of a name, in which its key was absent
pub record MakesPut (old : Maps) (name key value : Key) (new : Maps) : Type 0 where
  pub map : Map
  pub there : old name ≡ Some map
  pub absent : find key_cmp key map ≡ None
  pub is : new ≡ put_name old name (Some (put key_cmp key value map))

-- a part of an import is done
abbrev pub makes_part_as : Maps → Part → Maps → Type 0
makes_part_as old (OpensName name) new = new ≡ maps_opened (old name) name old
makes_part_as old (Puts name key value) new = MakesPut old name key value new

-- .. and all these are, one after the other
pub data MakesParts : Maps → List Part → Maps → Type 0 where
  MakesNone : {a : Maps} → MakesParts a [] a
  MakesOne : {a m b : Maps} {part : Part} {parts : List Part} → makes_part_as a part m → MakesParts m parts b → MakesParts a (part ∷ parts) b

-- replies of which a history fixes the kind alone: a number, a tree of this name, and a subscriber
abbrev pub TellsNumber : Reply → Type 0
TellsNumber reply = (number : ℕ) × (reply ≡ Number number)

abbrev pub TellsTree : Key → Reply → Type 0
TellsTree name reply = (database : Key) × (number : ℕ) × (reply ≡ told.Tree (record { database = database; name = name; number = number }))

abbrev pub TellsSubscriber : Reply → Type 0
TellsSubscriber reply = (number : ℕ) × (reply ≡ told.Subscriber number)

-- a reply is a pair, yes or no, or what a subscriber gets
abbrev pub TellsPair : Reply → Type 0
TellsPair reply = (pair : Option (Key × Key)) × (reply ≡ Pair pair)

abbrev pub TellsFlag : Reply → Type 0
TellsFlag reply = (flag : Bool) × (reply ≡ Flag flag)

abbrev pub TellsNext : Reply → Type 0
TellsNext reply = (next : Option event.Next) × (reply ≡ told.Next next)

-- a clear that is refused has removed so many keys, from the least up
pub record MakesClearParts (old : Maps) (tree : Tree) (number : ℕ) (new : Maps) : Type 0 where
  pub parts : ℕ
  pub told : number ≡ told_parts parts
  pub some : number ≢ 0
  pub takes : TakesLeast tree.name old parts new

-- an import of trees that is refused has done so many of its parts, and not the next
pub record MakesImportParts (old : Maps) (all : List Content) (number : ℕ) (new : Maps) : Type 0 where
  pub done : List Part
  pub next : Part
  pub later : List Part
  pub trees : are_trees all ≡ true
  pub all_parts : parts_of all ≡ done ++ next ∷ later
  pub told : number ≡ told_parts (length done)
  pub some : number ≢ 0
  pub makes : MakesParts old done new

-- keys of a tree were removed, each the least of those that were left, and these are the maps after each
pub data TakesThrough (name : Key) : Maps → List Maps → Maps → Type 0 where
  TakesNoMore : {a : Maps} → TakesThrough name a [] a
  TakesOneMore : {a b : Maps} {through : List Maps} (pair : Key × Key) (rest : Map) → a name ≡ Some (pair ∷ rest)
      → TakesThrough name (put_name a name (Some (map_with (Remove pair.0) (pair ∷ rest)))) through b
      → TakesThrough name a (put_name a name (Some (map_with (Remove pair.0) (pair ∷ rest))) ∷ through) b

-- parts of an import were done, one after the other, and these are the maps after each
pub data MakesThrough : Maps → List Part → List Maps → Maps → Type 0 where
  MakesNoMore : {a : Maps} → MakesThrough a [] [] a
  MakesOneMore : {a m b : Maps} {part : Part} {parts : List Part} {through : List Maps} → makes_part_as a part m → MakesThrough m parts through b → MakesThrough a (part ∷ parts) (m ∷ through) b

-- .. so many of them, the first ones
pub record MakesSomeThrough (old : Maps) (all : List Content) (number : ℕ) (through : List Maps) (new : Maps) : Type 0 where
  pub done : List Part
  pub later : List Part
  pub all_parts : parts_of all ≡ done ++ later
  pub told : number ≡ told_parts (length done)
  pub makes : MakesThrough old done through new

-- what a whole call makes: the reply that its caller gets, the maps that it leaves and the reply that is noted of it, and those that it
-- leaves if it is refused after so many parts; and in either case the maps that it led through, those after each of its parts
pub record Making : Type 1 where
  pub replies : Reply → Type 0
  pub makes : Maps → Reply → Maps → Type 0
  pub makes_parts : Maps → ℕ → Maps → Type 0
  pub through : Maps → List Maps → Maps → Type 0
  pub parts_through : Maps → ℕ → List Maps → Maps → Type 0

-- a call that is not done in parts leads through the maps after it
abbrev pub makes_at_once : (Reply → Type 0) → (Maps → Reply → Maps → Type 0) → Making
makes_at_once replies makes = record {
  replies = replies;
  makes = makes;
  makes_parts = λ old number new. ⊥;
  through = λ old through new. through ≡ new ∷ [];
  parts_through = λ old number through new. ⊥;
}

-- What each call makes. A group is one of trees that are there, an import is one of trees and does all its parts, and a name that is
-- dropped is not the default tree's and has no map then. A flush, an id, and what is about subscribers leave the maps as they were; what
-- a subscriber got is not noted
abbrev pub makes_of : WholeValue → Making
makes_of Flush = makes_at_once TellsNumber (λ old reply new. TellsNumber reply × (new ≡ old))
makes_of (PopMin tree) = makes_at_once TellsPair (λ old reply new. MakesPop IsLeast old tree reply new)
makes_of (PopMax tree) = makes_at_once TellsPair (λ old reply new. MakesPop IsGreatest old tree reply new)
makes_of (Clear tree) = record {
  replies = λ reply. reply ≡ Done;
  makes = λ old reply new. MakesClear old tree reply new;
  makes_parts = λ old number new. MakesClearParts old tree number new;
  through = λ old through new. TakesThrough tree.name old through new;
  parts_through = λ old number through new. TakesThrough tree.name old through new;
}
makes_of (Group batches) = makes_at_once (λ reply. reply ≡ Done) (λ old reply new. (reply ≡ Done) × All (HasMap old) batches × (new ≡ maps_with_writes (writes_of batches) old))
makes_of (OpenTree name) = makes_at_once (TellsTree name) (λ old reply new. TellsTree name reply × (new ≡ maps_opened (old name) name old))
makes_of (DropTree name) = makes_at_once TellsFlag (λ old reply new. (name ≢ default_name) × (reply ≡ Flag (is_some (old name))) × (new ≡ put_name old name None))
makes_of GenerateId = makes_at_once TellsNumber (λ old reply new. TellsNumber reply × (new ≡ old))
makes_of (Import all) = record {
  replies = λ reply. reply ≡ Done;
  makes = λ old reply new. (are_trees all ≡ true) × (reply ≡ Done) × MakesParts old (parts_of all) new;
  makes_parts = λ old number new. MakesImportParts old all number new;
  through = λ old through new. MakesThrough old (parts_of all) through new;
  parts_through = λ old number through new. MakesSomeThrough old all number through new;
}
makes_of (Watch tree prefix) = makes_at_once TellsSubscriber (λ old reply new. TellsSubscriber reply × (new ≡ old))
makes_of (Next subscriber) = makes_at_once TellsNext (λ old reply new. (reply ≡ Done) × (new ≡ old))
makes_of (Unsubscribe subscriber) = makes_at_once (λ reply. reply ≡ Done) (λ old reply new. (reply ≡ Done) × (new ≡ old))

-- a whole call, made at these maps, replies so and leaves those
abbrev pub makes_whole_as : Maps → WholeValue → Reply → Maps → Type 0
makes_whole_as old whole reply new = (makes_of whole).makes old reply new

-- .. and so many of its parts, after which it is refused, leave those
abbrev pub makes_parts_as : Maps → WholeValue → ℕ → Maps → Type 0
makes_parts_as old whole number new = (makes_of whole).makes_parts old number new
