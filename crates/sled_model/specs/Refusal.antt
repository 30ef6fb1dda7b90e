-- Which refusals there may be, and which there must be.
use Rattle.std.specs.Prelude.{◌≡◌, ◌≢◌, ℕ, ◌<◌, ◌≤◌, ◌⊎◌, true, false, Bool, not, ◌&&◌, nat_eq, map, List, [], ◌∷◌, Option, Some, None, is_some, if◌then◌else◌}
use Rattle.std.specs.Str.{bytes_eq}
use Rattle.sled_nodes.specs.Order.{Key}
use Rattle.sled_batch.specs.Batch.{Writes}
use Rattle.sled_store.specs.Store.{Store, HasUnreadable}
use Rattle.sled_nodes.specs.declared.error.Error.{Error}
use Rattle.sled_nodes.specs.declared.error.Error.TheVariants.{CollectionNotFound, Unsupported, ReportableBug, Io, NoMemory, Closed}
use Rattle.sled_nodes.specs.declared.texts.TheConstants.{HANDLE_OF_ANOTHER_DATABASE, NO_MERGE_OPERATOR, NUMBERS_USED_UP, IDS_USED_UP, CORE_STRUCTURES, WALK_PASSED_TURNS, UNKNOWN_COLLECTION_TYPE}
use Rattle.sled_model.specs.State.{State, NamedTree, CallInFlight, default_name}
use Rattle.sled_model.specs.Ids.{greatest_of_all}
use Rattle.sled_model.specs.Collections.{Content, contents_of, are_trees}
use Rattle.sled_model.specs.declared.call.Call.{Call}
use Rattle.sled_model.specs.declared.call.Call.TheVariants.{Get, Insert, Remove, CompareAndSwap, Scan}
use Rattle.sled_model.specs.declared.call.Call.TheVariants as call
use Rattle.sled_model.specs.declared.call.Whole.{Whole}
use Rattle.sled_model.specs.declared.call.Whole.TheVariants.{Flush, PopMin, PopMax, Clear, Group, OpenTree, DropTree, GenerateId, Import, Watch, Next, Unsubscribe}
use Rattle.sled_model.specs.declared.tree.Tree.{Tree}

-- what was asked of the database: to begin a call, to go on with the call in a slot, to make a call at once, a whole call, or to set
-- the merge operator of a tree
pub data Asked : Type 0 where
  ToBegin : (tree : Tree) (call : Call) → Asked
  ToStep : (flying : CallInFlight) → Asked
  ToPoint : (tree : Tree) (call : Call) → Asked
  ToCall : (whole : Whole) → Asked
  ToSetOperator : (tree : Tree) → Asked

-- the trees of a group, in the order of the list
abbrev pub trees_of_batches : List (Tree × Writes) → List Tree
trees_of_batches batches = map (λ b. b.0) batches

-- why a call must be refused: the database is closed, the tree is another database's, it was dropped, or it has no operator
pub data MustRefuse : Type 0 where
  IsClosed : MustRefuse
  IsForeign : MustRefuse
  IsDropped : (name : Key) → MustRefuse
  HasNoOperator : MustRefuse

abbrev pub first_of : Option MustRefuse → Option MustRefuse → Option MustRefuse
first_of None second = second
first_of (Some first) second = Some first

-- some tree is another database's
abbrev pub foreign_test : Key → List Tree → Option MustRefuse
foreign_test name [] = None
foreign_test name (t ∷ ts) = if bytes_eq t.database name then foreign_test name ts else Some IsForeign

-- the name has a tree of this number
abbrev pub is_number : ℕ → Option NamedTree → Bool
is_number n None = false
is_number n (Some t) = nat_eq t.number n

-- the first of the trees whose number is not that of its name
abbrev pub dropped_test : State → List Tree → Option MustRefuse
dropped_test s [] = None
dropped_test s (t ∷ ts) = if is_number t.number (s.trees t.name) then dropped_test s ts else Some (IsDropped t.name)

-- The first cause of a refusal, if there is one: the tests go in this order, over all trees test by test
abbrev pub must_refuse_of : State → List Tree → Option MustRefuse
must_refuse_of s trees = first_of (if s.is_open then None else Some IsClosed) (first_of (foreign_test s.name trees) (dropped_test s trees))

-- which calls need the merge operator of their tree
abbrev pub needs_operator : Call → Bool
needs_operator (Get k) = false
needs_operator (Insert k v) = false
needs_operator (Remove k) = false
needs_operator (CompareAndSwap k old new) = false
needs_operator (call.Merge k bytes) = true
needs_operator (Scan lo hi back) = false

abbrev pub has_operator : Option NamedTree → Bool
has_operator None = false
has_operator (Some t) = is_some t.merge

-- the last test: the tree of a call that needs an operator has one
abbrev pub operator_test : State → Asked → Option MustRefuse
operator_test s (ToBegin tree call) = if needs_operator call && not (has_operator (s.trees tree.name)) then (Some HasNoOperator) else None
operator_test s (ToStep f) = if needs_operator f.call && not (has_operator (s.trees f.tree.name)) then (Some HasNoOperator) else None
operator_test s (ToPoint tree call) = if needs_operator call && not (has_operator (s.trees tree.name)) then (Some HasNoOperator) else None
operator_test s (ToCall whole) = None
operator_test s (ToSetOperator tree) = None

-- the error of this cause. A tree's name may want memory
abbrev pub tells : MustRefuse → Error → Type 0
tells IsClosed e = e ≡ Closed
tells IsForeign (Unsupported text) = text.now ≡ HANDLE_OF_ANOTHER_DATABASE.now
tells IsForeign e = ⊥
tells (IsDropped name) e = (e ≡ CollectionNotFound name) ⊎ (e ≡ NoMemory)
tells HasNoOperator (Unsupported text) = text.now ≡ NO_MERGE_OPERATOR.now
tells HasNoOperator e = ⊥

-- a call whose turns are this many is refused at its next step
abbrev pub turns_limit : ℕ
turns_limit = 1000000

-- the error of a call that has no turns left
abbrev pub TellsTurns : Error → Type 0
TellsTurns (ReportableBug text) = text.now ≡ WALK_PASSED_TURNS.now
TellsTurns e = ⊥

-- the store counted a fault, or some page is not readable. a is the store before, b the store after
abbrev pub HasFault : Store → Store → Type 0
HasFault a b = (a.faults < b.faults) ⊎ HasUnreadable a

-- why no id is given: none is set aside, and the greatest that there can be was given, or the store sets no more aside
abbrev pub cause_of_id : State → Store → Store → Error → Type 0
cause_of_id s a b (Unsupported text) = (text.now ≡ IDS_USED_UP.now) × (s.mark ≤ s.greatest_id) × (s.mark ≡ greatest_of_all)
cause_of_id s a b NoMemory = (s.mark ≤ s.greatest_id) × (s.mark < greatest_of_all)
cause_of_id s a b (Io fault) = (s.mark ≤ s.greatest_id) × (s.mark < greatest_of_all) × (a.faults < b.faults)
cause_of_id s a b e = ⊥

-- why a tree is not dropped: it is the default tree; or it is another that there is, and before its root goes there was no memory, the
-- store counted a fault, or some page is not readable
abbrev pub cause_of_drop : State → Store → Store → Key → Error → Type 0
cause_of_drop s a b name (Unsupported text) = (text.now ≡ CORE_STRUCTURES.now) × (name ≡ default_name)
cause_of_drop s a b name NoMemory = (name ≢ default_name) × (s.trees name ≢ None)
cause_of_drop s a b name (Io fault) = (name ≢ default_name) × (s.trees name ≢ None) × HasFault a b
cause_of_drop s a b name e = ⊥

-- why an import is refused before its first part: some collection is of another type than `tree`
abbrev pub cause_of_import : List Content → Error → Type 0
cause_of_import all (Unsupported text) = (text.now ≡ UNKNOWN_COLLECTION_TYPE.now) × (are_trees all ≡ false)
cause_of_import all e = ⊥

-- why nothing more is numbered, where so many numbers were given: there is no memory, or all were given
abbrev pub cause_of_numbering : ℕ → Error → Type 0
cause_of_numbering given NoMemory = Unit {0}
cause_of_numbering given (Unsupported text) = (text.now ≡ NUMBERS_USED_UP.now) × (given ≡ 18446744073709551615)
cause_of_numbering given e = ⊥

-- why a step of a call in flight is refused
abbrev pub cause_of_step : State → Store → Store → CallInFlight → Error → Type 0
cause_of_step s a b f NoMemory = Unit {0}
cause_of_step s a b f (Io fault) = HasFault a b
cause_of_step s a b f (ReportableBug text) = (text.now ≡ WALK_PASSED_TURNS.now) × (f.turns ≡ turns_limit)
cause_of_step s a b f e = ⊥

-- why a call that is made at once, a pop, a part of a clear or a group is refused: there is no memory, the store counted a fault or some
-- page is not readable, or the turns of a walk are used up
abbrev pub cause_of_walk : Store → Store → Error → Type 0
cause_of_walk a b NoMemory = Unit {0}
cause_of_walk a b (Io fault) = HasFault a b
cause_of_walk a b (ReportableBug text) = text.now ≡ WALK_PASSED_TURNS.now
cause_of_walk a b e = ⊥

-- why a name is not opened: there is no memory; or it is new, and a fault was counted or all numbers of trees were given
abbrev pub cause_of_opening : State → Store → Store → Key → Error → Type 0
cause_of_opening s a b name NoMemory = Unit {0}
cause_of_opening s a b name (Io fault) = (s.trees name ≡ None) × (a.faults < b.faults)
cause_of_opening s a b name (Unsupported text) = (text.now ≡ NUMBERS_USED_UP.now) × (s.trees name ≡ None) × (s.trees_given ≡ 18446744073709551615)
cause_of_opening s a b name e = ⊥

-- why a flush is refused: there is no memory, or the store counted a fault
abbrev pub cause_of_flush : Store → Store → Error → Type 0
cause_of_flush a b NoMemory = Unit {0}
cause_of_flush a b (Io fault) = a.faults < b.faults
cause_of_flush a b e = ⊥

-- what a whole call asks for: the trees that it is asked of, and why it is refused if no test of the database and of these refuses it.
-- a is the store before, b the store after
pub record Asks : Type 1 where
  pub trees : List Tree
  pub cause : State → Store → Store → Error → Type 0

-- .. each of them. `Next` and `Unsubscribe` are never refused
abbrev pub asks_of : Whole → Asks
asks_of Flush = record { trees = []; cause = λ s a b e. cause_of_flush a b e }
asks_of (PopMin tree) = record { trees = tree ∷ []; cause = λ s a b e. cause_of_walk a b e }
asks_of (PopMax tree) = record { trees = tree ∷ []; cause = λ s a b e. cause_of_walk a b e }
asks_of (Clear tree) = record { trees = tree ∷ []; cause = λ s a b e. cause_of_walk a b e }
asks_of (Group batches) = record { trees = trees_of_batches batches.items; cause = λ s a b e. cause_of_walk a b e }
asks_of (OpenTree name) = record { trees = []; cause = λ s a b e. cause_of_opening s a b name e }
asks_of (DropTree name) = record { trees = []; cause = λ s a b e. cause_of_drop s a b name e }
asks_of GenerateId = record { trees = []; cause = λ s a b e. cause_of_id s a b e }
asks_of (Import collections) = record { trees = []; cause = λ s a b e. cause_of_import (contents_of collections.items) e }
asks_of (Watch tree prefix) = record { trees = tree ∷ []; cause = λ s a b e. cause_of_numbering s.subscribers_given e }
asks_of (Next subscriber) = record { trees = []; cause = λ s a b e. ⊥ }
asks_of (Unsubscribe subscriber) = record { trees = []; cause = λ s a b e. ⊥ }

-- the trees that it is asked of
abbrev pub trees_asked : Asked → List Tree
trees_asked (ToBegin tree call) = tree ∷ []
trees_asked (ToStep flying) = flying.tree ∷ []
trees_asked (ToPoint tree call) = tree ∷ []
trees_asked (ToCall whole) = (asks_of whole).trees
trees_asked (ToSetOperator tree) = tree ∷ []

abbrev pub must_refuse : State → Asked → Option MustRefuse
must_refuse s asked = first_of (must_refuse_of s (trees_asked asked)) (operator_test s asked)

-- The causes of a refusal that is none of those tests: slots, trees and subscribers are numbered up to the greatest u64. The call has
-- no turns left; the store counted a fault, or some page is not readable; for a flush and a merge operator memory may be wanted. a is the
-- store before, b the store after
abbrev pub cause_of : State → Store → Store → Asked → Error → Type 0
cause_of s a b (ToBegin tree call) e = cause_of_numbering s.slots_given e
cause_of s a b (ToStep f) e = cause_of_step s a b f e
cause_of s a b (ToPoint tree call) e = cause_of_walk a b e
cause_of s a b (ToCall whole) e = (asks_of whole).cause s a b e
cause_of s a b (ToSetOperator tree) NoMemory = Unit {0}
cause_of s a b (ToSetOperator tree) e = ⊥

-- it may be refused so: by the first of the tests that fails, or if none fails for one of the causes
abbrev pub may_refuse_as : Option MustRefuse → (Error → Type 0) → Error → Type 0
may_refuse_as (Some must) cause e = tells must e
may_refuse_as None cause e = cause e

pub record MayRefuse (s : State) (a b : Store) (asked : Asked) (e : Error) : Type 0 where
  pub is : may_refuse_as (must_refuse s asked) (cause_of s a b asked) e
