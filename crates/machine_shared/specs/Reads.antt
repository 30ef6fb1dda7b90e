-- What reads under one lock return.
use Rattle.std.specs.Prelude.{◌≡◌, ◌↔◌, ℕ, ◌≤◌, Bool, true, false, ◌&&◌, IsTrue, All, List, [], ◌∷◌, length, map, take, Option, Some, None, is_some}
use Rattle.std.specs.FinMap.Entries.{find, is_sorted}
use Rattle.std.specs.declared.ops.Bound.{Bound}
use Rattle.std.specs.declared.ops.Bound.TheVariants.{Excluded, Unbounded}
use Rattle.sled_nodes.specs.Among.{IsSuccessor, IsPredecessor, is_from, is_up_to}
use Rattle.sled_nodes.specs.Order.{Key, key_cmp}
use Rattle.sled_nodes.specs.declared.error.Error.{Error}
use Rattle.sled_nodes.specs.declared.error.Error.TheVariants.{NoMemory, ReportableBug}
use Rattle.sled_store.specs.In.{In}
use Rattle.sled_store.specs.Store.{Store, refuses_read_as}
use Rattle.sled_model.specs.Collections.{Content, are_trees}
use Rattle.sled_model.specs.Maps.{Map, Maps}
use Rattle.sled_model.specs.Refusal.{MustRefuse, tells}
use Rattle.sled_model.specs.declared.tree.Tree.{Tree}
use Rattle.tree_reads.specs.Ranges.{pairs_within}
use Rattle.tree_reads.specs.Walk.{once, for_each}
use Rattle.sled.specs.Names.{Ascend}
use Rattle.machine_shared.specs.Openings.{maps_from}
use Rattle.machine_shared.specs.Orders.{in_order}
use Rattle.machine_shared.specs.declared.read.Question.{Question}
use Rattle.machine_shared.specs.declared.read.Question.TheVariants.{Get, ContainsKey, First, Last, GetLt, GetGt, Len, IsEmpty, Page}
use Rattle.machine_shared.specs.declared.read.Answer.{Answer}
use Rattle.machine_shared.specs.declared.read.Answer.TheVariants.{Value, Flag, Pair, Count, Pairs}
use Rattle.machine_shared.specs.declared.read.Read.{Read}
use Rattle.machine_shared.specs.declared.read.Read.TheVariants as read

-- the first so many of the pairs within two bounds, in the order in which they are read
abbrev pub page_of : Bound Key → Bound Key → Bool → ℕ → Map → List (Key × Key)
page_of lo hi back most map = take most (in_order back (pairs_within lo hi map))

-- the answer is a pair, if there is one, of which this holds
abbrev pub TellsPair : (Option (Key × Key) → Type 0) → Answer → Type 0
TellsPair claim answer = (found : Option (Key × Key)) × claim found × (answer ≡ Pair found)

-- the answer to a question about a map
abbrev pub answers_as : Map → Question → Answer → Type 0
answers_as map (Get key) answer = answer ≡ Value (find key_cmp key map)
answers_as map (ContainsKey key) answer = answer ≡ Flag (is_some (find key_cmp key map))
answers_as map First answer = TellsPair (IsSuccessor Unbounded map) answer
answers_as map Last answer = TellsPair (IsPredecessor Unbounded map) answer
answers_as map (GetLt key) answer = TellsPair (IsPredecessor (Excluded key) map) answer
answers_as map (GetGt key) answer = TellsPair (IsSuccessor (Excluded key) map) answer
answers_as map Len answer = answer ≡ Count (length map)
answers_as map IsEmpty answer = (empty : Bool) × (IsTrue empty ↔ (map ≡ [])) × (answer ≡ Flag empty)
answers_as map (Page lo hi back most) answer = answer ≡ Pairs (page_of lo hi back most map)

-- the answer to a question about a tree is that of its map
pub record AnswersIn (maps : Maps) (tree : Tree) (question : Question) (answer : Answer) : Type 0 where
  pub map : Map
  pub there : maps tree.name ≡ Some map
  pub is : answers_as map question answer

-- these are the names that have a map, in order
pub record NamesIn (maps : Maps) (names : List Key) : Type 0 where
  pub ascend : Ascend names
  pub each : (name : Key) → In name names → is_some (maps name) ≡ true
  pub all : (name : Key) → is_some (maps name) ≡ true → In name names

-- these are the collections of all trees, in the order of their names, each with the pairs of its map
pub record ExportIn (maps : Maps) (all : List Content) : Type 0 where
  pub trees : are_trees all ≡ true
  pub ascend : Ascend (map (λ c. c.1) all)
  pub is : maps ≡ maps_from all

-- what was read says what these maps are
abbrev pub reads_as : Maps → Read → Type 0
reads_as maps (read.Tree tree question answer) = AnswersIn maps tree question answer
reads_as maps (read.Names names) = NamesIn maps names
reads_as maps (read.Export all) = ExportIn maps all

-- the kinds of answers
abbrev pub IsValue : Answer → Type 0
IsValue answer = (value : Option Key) × (answer ≡ Value value)

abbrev pub IsFlag : Answer → Type 0
IsFlag answer = (flag : Bool) × (answer ≡ Flag flag)

abbrev pub IsPair : Answer → Type 0
IsPair answer = (pair : Option (Key × Key)) × (answer ≡ Pair pair)

abbrev pub IsCount : Answer → Type 0
IsCount answer = (count : ℕ) × (answer ≡ Count count)

-- the key is within two bounds
abbrev pub is_within : Bound Key → Bound Key → Key → Bool
is_within lo hi key = is_from lo key && is_up_to hi key

-- a part of a range: so many pairs at the most, whose keys are within the bounds and rise or, back, fall
pub record IsPart (lo hi : Bound Key) (back : Bool) (most : ℕ) (pairs : List (Key × Key)) : Type 0 where
  pub few : length pairs ≤ most
  pub within : All (λ p. is_within lo hi p.0 ≡ true) (in_order back pairs)
  pub order : is_sorted key_cmp (in_order back pairs) ≡ true

-- .. is the answer
pub record IsPageOf (lo hi : Bound Key) (back : Bool) (most : ℕ) (answer : Answer) : Type 0 where
  pub pairs : List (Key × Key)
  pub is : answer ≡ Pairs pairs
  pub part : IsPart lo hi back most pairs

-- the kind of answer that a question has
abbrev pub IsAnswerTo : Question → Answer → Type 0
IsAnswerTo (Get key) answer = IsValue answer
IsAnswerTo (ContainsKey key) answer = IsFlag answer
IsAnswerTo First answer = IsPair answer
IsAnswerTo Last answer = IsPair answer
IsAnswerTo (GetLt key) answer = IsPair answer
IsAnswerTo (GetGt key) answer = IsPair answer
IsAnswerTo Len answer = IsCount answer
IsAnswerTo IsEmpty answer = IsFlag answer
IsAnswerTo (Page lo hi back most) answer = IsPageOf lo hi back most answer

-- what is asked of a database: a question about one of its trees, the names of all trees, or all that they have
pub data Asked : Type 0 where
  OfTree : Tree → Question → Asked
  OfNames : Asked
  OfAll : Asked

-- the tree that is named
abbrev pub trees_asked : Asked → List Tree
trees_asked (OfTree tree question) = tree ∷ []
trees_asked OfNames = []
trees_asked OfAll = []

-- how many pages a walk in this direction looks at, in a tree of so many: each once or, back, all of them for each
abbrev pub pages_walked : Bool → ℕ → ℕ
pages_walked true = for_each
pages_walked false = once

-- .. and what answers a question
abbrev pub pages_asked : Question → ℕ → ℕ
pages_asked Last = for_each
pages_asked (GetLt key) = for_each
pages_asked (Page lo hi back most) = pages_walked back
pages_asked question = once

-- why a read of all trees stops: for want of memory, or for a page that is not readable
abbrev pub stops_look : Store → Error → Type 0
stops_look s (ReportableBug text) = ⊥
stops_look s e = refuses_read_as s e

-- .. or why it is refused before, by a test
abbrev pub refuses_look_as : Store → Option MustRefuse → Error → Type 0
refuses_look_as s (Some must) e = tells must e
refuses_look_as s None e = stops_look s e

-- why the names of all trees are refused: by a test, or for want of memory alone, since no page is looked at
abbrev pub refuses_names_as : Option MustRefuse → Error → Type 0
refuses_names_as (Some must) e = tells must e
refuses_names_as None e = e ≡ NoMemory
