-- What an import makes of the state.
use Rattle.std.specs.Prelude.{◌≡◌, ◌⊎◌, true, List, [], ◌∷◌, ◌++◌, Option, Some, None, is_none}
use Rattle.std.specs.FinMap.Entries.{find}
use Rattle.sled_nodes.specs.Order.{Key, key_cmp}
use Rattle.sled_store.specs.Store.{Store, refuses_read_as}
use Rattle.sled_nodes.specs.declared.error.Error.{Error}
use Rattle.sled_nodes.specs.declared.error.Error.TheVariants.{Unsupported, ReportableBug}
use Rattle.sled_nodes.specs.declared.texts.TheConstants.{OVERWRITES_DATA, WALK_PASSED_TURNS}
use Rattle.sled_model.specs.Maps.{Maps}
use Rattle.sled_model.specs.Answer.{answer_of}
use Rattle.sled_model.specs.Collections.{Content, are_trees}
use Rattle.sled_model.specs.State.{State, NamedTree, maps_of, after_decision_on}
use Rattle.sled_model.specs.Refusal.{MustRefuse, ToPoint, ToCall, must_refuse_of, tells, MayRefuse}
use Rattle.sled_model.specs.Whole.{number_opened, state_opened, maps_if}
use Rattle.sled_model.specs.declared.call.Call.TheVariants.{Insert}
use Rattle.sled_model.specs.declared.call.Whole.TheVariants.{OpenTree}
use Rattle.sled_model.specs.declared.tree.Tree.{Tree}

-- a part of an import: a name is opened, or a pair is put into the tree of a name
pub data Part : Type 0 where
  OpensName : (name : Key) → Part
  Puts : (name key value : Key) → Part

-- these pairs are put into the tree of this name, and other parts follow
abbrev pub puts_of : Key → List (Key × Key) → List Part → List Part
puts_of name [] others = others
puts_of name (p ∷ ps) others = Puts name p.0 p.1 ∷ puts_of name ps others

-- The parts of an import, in order: the name of each collection is opened, and then its pairs are put
abbrev pub parts_of : List Content → List Part
parts_of [] = []
parts_of (c ∷ cs) = OpensName c.1 ∷ puts_of c.1 c.2 (parts_of cs)

-- the tree that a name has, as callers name it
abbrev pub tree_at : State → Key → Tree
tree_at s name = record { database = s.name; name = name; number = number_opened (s.trees name) s }

-- a pair is put into the tree of a name, if its key was absent: it is inserted, with its event
pub record PutsPair (old : State) (name key value : Key) (new : State) (maps : List Maps) : Type 0 where
  pub named : NamedTree
  pub there : old.trees name ≡ Some named
  pub absent : find key_cmp key named.map ≡ None
  pub is : new ≡ after_decision_on old name named (answer_of named.merge (Insert key value) named.map)
  pub added : maps ≡ maps_of new ∷ []

-- one part is done, and adds these maps
abbrev pub does_part_as : State → Part → State → List Maps → Type 0
does_part_as old (OpensName name) new maps = (new ≡ state_opened (old.trees name) old name) × (maps ≡ maps_if (is_none (old.trees name)) new)
does_part_as old (Puts name key value) new maps = PutsPair old name key value new maps

-- Parts are done one after the other, and these are the maps that each adds, in order
pub data DoesParts : State → List Part → State → List Maps → Type 0 where
  NoPart : {s : State} → DoesParts s [] s []
  OnePart : {a m b : State} {part : Part} {parts : List Part} {maps : List Maps} (added : List Maps) → does_part_as a part m added → DoesParts m parts b maps → DoesParts a (part ∷ parts) b (added ++ maps)

-- an import of these collections, each of the type `tree`, does all its parts
pub record Imports (old : State) (all : List Content) (new : State) (maps : List Maps) : Type 0 where
  pub free : must_refuse_of old [] ≡ None
  pub trees : are_trees all ≡ true
  pub does : DoesParts old (parts_of all) new maps

-- the key has this value in the tree of this name, or none
pub record HasAt (s : State) (name key : Key) (value : Option Key) : Type 0 where
  pub named : NamedTree
  pub there : s.trees name ≡ Some named
  pub is : find key_cmp key named.map ≡ value

-- a pair is not put over another
abbrev pub overwrites_as : State → Key → Key → Error → Type 0
overwrites_as s name key (Unsupported text) = (text.now ≡ OVERWRITES_DATA.now) × (value : Key) × HasAt s name key (Some value)
overwrites_as s name key e = ⊥

-- why a key is not looked for to the end: by a test of the tree, or for want of memory, a page that is not readable, or turns used up
abbrev pub unread_as : Option MustRefuse → Store → Error → Type 0
unread_as (Some must) a e = tells must e
unread_as None a (ReportableBug text) = text.now ≡ WALK_PASSED_TURNS.now
unread_as None a e = refuses_read_as a e

-- why a part is refused: as an opening is; and a pair, since its key is present, or could not be looked for, or is absent and the
-- insert is refused
abbrev pub refuses_part : State → Store → Store → Part → Error → Type 0
refuses_part s a b (OpensName name) e = MayRefuse s a b (ToCall (OpenTree name)) e
refuses_part s a b (Puts name key value) e = overwrites_as s name key e ⊎ (unread_as (must_refuse_of s (tree_at s name ∷ [])) a e ⊎ (HasAt s name key None × MayRefuse s a b (ToPoint (tree_at s name) (Insert key value)) e))

-- where parts stop: those that were done, the next, which is refused, and those that are left
pub record Stop : Type 0 where
  pub done : List Part
  pub next : Part
  pub later : List Part

-- an import does its first parts, and the next is refused
pub record StopsAtPart (old : State) (a b : Store) (all : List Content) (stop : Stop) (e : Error) (new : State) (maps : List Maps) : Type 0 where
  pub free : must_refuse_of old [] ≡ None
  pub trees : are_trees all ≡ true
  pub all_parts : parts_of all ≡ stop.done ++ stop.next ∷ stop.later
  pub does : DoesParts old stop.done new maps
  pub refuses : refuses_part new a b stop.next e
