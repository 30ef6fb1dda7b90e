-- The new value at a key that a closure makes from the one that is there, noted as the swap of the one for the other.
use Rattle.std.specs.Prelude.{◌≡◌, ℕ, List, [], ◌∷◌, ◌++◌, Option, None, Ok, Err, Result}
use Rattle.std.specs.Option.{option_map}
use Rattle.std.specs.declared.vec.Vec.{Vec}
use Rattle.std.specs.declared.alloc.Global.{Global}
use Rattle.sled_nodes.specs.Order.{Key}
use Rattle.sled_nodes.specs.declared.error.Error.{Error}
use Rattle.sled_nodes.specs.declared.error.Error.TheVariants.{Closed, NoMemory}
use Rattle.sled_store.specs.Store.{Store}
use Rattle.tree_laws.specs.Crashes.{AddsCrashStates}
use Rattle.sled_model.specs.Maps.{Merge}
use Rattle.sled_model.specs.Refusal.{must_refuse_of}
use Rattle.sled_model.specs.declared.call.Call.TheVariants.{CompareAndSwap}
use Rattle.sled_model.specs.declared.reply.Reply.TheVariants.{Swapped}
use Rattle.sled_model.specs.declared.tree.Tree.{Tree}
use Rattle.tree_reads.specs.Walk.{once}
use Rattle.sled.specs.Direct.{PointDecided, PointRefused}
use Rattle.sled.specs.Fetch.{Answers, Closure, Stands}
use Rattle.sled.specs.Reads.{GivesUpGet, RefusesReading}
use Rattle.sled.specs.Values.{DbValue, db_state}
use Rattle.machine_alone.specs.Values.{MachineValue}
use Rattle.machine_shared.specs.Made.{MadeValue, PointMade}
use Rattle.machine_shared.specs.UnderLock.{AddsMade, AsHeld}
use Rattle.machine_shared.specs.Values.{CallerValue, StateValue}

-- a swap of the one value for the other, which succeeded
abbrev pub swap_made : Tree → Key → Option Key → Option Key → MadeValue
swap_made tree key stood made = PointMade tree (CompareAndSwap key stood made) (Swapped (Ok tt))

-- the closure, as it was given, made the other value from the one
pub record MakesOf {F : Type 0} (closure : Closure F) (f : F) (stood made : Option Key) : Type 0 where
  pub answer : Option (Vec ℕ Global)
  pub answers : Answers closure f stood (Ok answer)
  pub is : made ≡ option_map (λ v. v.items) answer

-- .. and the swap of the one for the other was added at the end of a list
pub record Fetches {F : Type 0} (closure : Closure F) (f : F) (tree : Tree) (key : Key) (stood made : Option Key) (list more : List MadeValue) : Type 0 where
  pub makes : MakesOf closure f stood made
  pub adds : more ≡ list ++ swap_made tree key stood made ∷ []

module _ {P M : Type 0} (store : P → Store) (meant : M → Merge) where
  -- one value was swapped for the other, and the calls in flight stay
  pub record SwapsNow (old : MachineValue P M) (tree : Tree) (key : Key) (stood made : Option Key) (new : MachineValue P M) : Type 0 where
    pub swaps : PointDecided store meant old.db tree (CompareAndSwap key stood made) (Swapped (Ok tt)) new.db
    pub same : new ≡ record old { db = new.db }

  -- no map changed, and nothing was added that a crash may leave
  pub record StaysStill (old new : MachineValue P M) : Type 0 where
    pub state : db_state store meant new.db ≡ db_state store meant old.db
    pub extends : AddsCrashStates [] (store old.db.pages) (store new.db.pages)
    pub ids : new.db.greatest_id ≡ old.db.greatest_id

  -- Why a fetch is refused: the read of the key is, by the first test that fails or for its pages; or so is the swap of what is there for
  -- some value; or no test fails, and there is no memory, for the closure or to note the swap
  pub data RefusesFetch (old : DbValue P M) (tree : Tree) (key : Key) (e : Error) (new : DbValue P M) : Type 0 where
    ByRead : RefusesReading store meant old tree once e → GivesUpGet store meant old tree key e → new ≡ old → RefusesFetch old tree key e new
    BySwap : {stood made : Option Key} → Stands store meant old tree key stood → PointRefused store meant old tree (CompareAndSwap key stood made) e new → RefusesFetch old tree key e new
    ForMemory : must_refuse_of (db_state store meant old) (tree ∷ []) ≡ None → e ≡ NoMemory → new ≡ old → RefusesFetch old tree key e new

  -- by how a fetch came out
  abbrev pub fetch_changes : MachineValue P M → Tree → Key → Result (Option Key × Option Key) Error → MachineValue P M → Type 0
  fetch_changes old tree key (Ok both) new = SwapsNow old tree key both.0 both.1 new
  fetch_changes old tree key (Err e) new = StaysStill old new × RefusesFetch old.db tree key e new.db

-- what is noted of it
abbrev pub fetch_made : Tree → Key → Result (Option Key × Option Key) Error → List MadeValue
fetch_made tree key (Ok both) = swap_made tree key both.0 both.1 ∷ []
fetch_made tree key (Err e) = []

-- A fetch swaps the one value for the other, which is noted as this caller's; or it is refused, and no map changes. The calls in flight
-- stay, and what is noted of scans
pub record FetchesOnce {P M : Type 0} (store : P → Store) (meant : M → Merge) (tree : Tree) (key : Key) (result : Result (Option Key × Option Key) Error) (me more : CallerValue) (old new : StateValue P M) : Type 0 where
  pub changes : fetch_changes store meant old.machine tree key result new.machine
  pub same : new.machine ≡ record (old.machine) { db = new.machine.db }
  pub adds : AddsMade old me (fetch_made tree key result) new more
  pub scans : new.scans ≡ old.scans

-- it was made under the lock
abbrev pub FetchesUnderLock : {P M : Type 0} → (P → Store) → (M → Merge) → Tree → Key → Result (Option Key × Option Key) Error → CallerValue → CallerValue → Type 0
FetchesUnderLock store meant tree key result me more = AsHeld store ((result ≡ Err Closed) × (more ≡ me)) (FetchesOnce store meant tree key result me more)
