-- What an owner makes by direct calls and a transaction, and what a crash leaves of it.
use Rattle.std.specs.Prelude.{◌≡◌, ℕ, Bool, true, false, List, [], ◌∷◌, ◌++◌, Option, Some}
use Rattle.std.specs.FinMap.Entries.{put}
use Rattle.sled_nodes.specs.Order.{Key, key_cmp}
use Rattle.sled_batch.specs.Batch.{Writes}
use Rattle.sled_store.specs.In.{In}
use Rattle.sled_store.specs.Store.{Store}
use Rattle.sled_model.specs.Maps.{Maps, Merge}
use Rattle.sled_model.specs.declared.call.Call.TheVariants.{Insert}
use Rattle.sled_model.specs.declared.tree.Tree.{Tree}
use Rattle.sled_model.specs.declared.reply.Reply.TheVariants.{Value, Number}
use Rattle.sled.specs.Opens.{with_default}
use Rattle.sled.specs.Values.{DbValue}
use Rattle.machine_shared.specs.Crashes.{LeadsThrough}
use Rattle.machine_shared.specs.Made.{MadeValue, PointMade, WholeMade}
use Rattle.machine_shared.specs.Wholes.{Flush}
use Rattle.call_laws.specs.Calls.{MakesCalls, alone, owned}
use Rattle.call_laws.specs.Laws.{committed}
use Rattle.example_owned.specs.declared.owned.Written.{Written}

-- the database came from one to the other by calls of its owner, which made such a list
pub record Goes {P M : Type 0} (store : P → Store) (flush_number : P → ℕ) (meant : M → Merge) (old : DbValue P M) (is_made : List MadeValue → Type 0) (new : DbValue P M) : Type 0 where
  pub made : List MadeValue
  pub calls : MakesCalls store flush_number meant (alone old) made (alone new)
  pub is : is_made made

-- an insert made one entry if it succeeded, and else none
abbrev pub IsInsert : Tree → Key → Key → Bool → List MadeValue → Type 0
IsInsert tree key value true made = (stood : Option Key) × (made ≡ PointMade tree (Insert key value) (Value stood) ∷ [])
IsInsert tree key value false made = made ≡ []

-- two keys are to have this value
abbrev pub both_writes : Key → Key → Key → Writes
both_writes one other value = put key_cmp other (Some value) (put key_cmp one (Some value) [])

-- .. the same of a transaction that writes two keys
abbrev pub IsBoth : Tree → Key → Key → Key → Bool → List MadeValue → Type 0
IsBoth tree one other value true made = made ≡ committed ((tree, both_writes one other value) ∷ []) false 0
IsBoth tree one other value false made = made ≡ []

-- .. and of a flush
abbrev pub IsFlush : Bool → List MadeValue → Type 0
IsFlush true made = (number : ℕ) × (made ≡ WholeMade Flush (Number number) ∷ [])
IsFlush false made = made ≡ []

-- an insert, a transaction, a flush and another insert of the key, in this order, each as it came out
pub record IsOrder (tree : Tree) (key first second one other : Key) (written : Written) (made : List MadeValue) : Type 0 where
  pub insert : List MadeValue
  pub both : List MadeValue
  pub flush : List MadeValue
  pub later : List MadeValue
  pub is : made ≡ insert ++ (both ++ (flush ++ later))
  pub inserts : IsInsert tree key first written.insert insert
  pub writes_both : IsBoth tree one other first written.both both
  pub flushes : IsFlush written.flush flush
  pub inserts_later : IsInsert tree key second written.later later

-- A database was opened over these maps, its owner made these calls, which came out so, its store crashed, and what was left was opened.
-- What is found is one of the maps that a crash may leave of the calls that succeeded: each replied and wrote what it does at its place
pub record FoundAfter (before found : Maps) (key first second one other : Key) (written : Written) : Type 0 where
  pub start : Maps
  pub opens : start ≡ with_default before
  pub tree : Tree
  pub made : List MadeValue
  pub order : IsOrder tree key first second one other written made
  pub last : Maps
  pub left : List Maps
  pub leads : LeadsThrough start (start ∷ []) (owned made) last left
  pub kept : Maps
  pub one_left : In kept left
  pub is : found ≡ with_default kept
