-- What a call that is made at once promises, part by part. `Direct` has all but what is said of maps as two records, of an answer and of a
-- refusal.
use Rattle.std.specs.Prelude.{◌≡◌, ◌≢◌, ℕ, ◌≤◌, ◌⊎◌, Bool, List, [], ◌∷◌, length, is_some, Option, Some, None, Result, Ok, Err}
use Rattle.std.specs.FinMap.Entries.{find, put}
use Rattle.std.specs.declared.ops.Bound.TheVariants.{Included}
use Rattle.sled_nodes.specs.Order.{Key, key_cmp}
use Rattle.sled_nodes.specs.Node.{without}
use Rattle.sled_store.specs.Store.{Store, now}
use Rattle.sled_nodes.specs.declared.error.Error.{Error}
use Rattle.sled_model.specs.Maps.{Map, Merge}
use Rattle.sled_model.specs.State.{NamedTree, maps_of}
use Rattle.sled_model.specs.Refusal.{TellsTurns, turns_limit, MayRefuse, ToCall}
use Rattle.sled_model.specs.declared.call.Call.{Call}
use Rattle.sled_model.specs.declared.call.Whole.{Whole}
use Rattle.sled_model.specs.declared.tree.Tree.{Tree}
use Rattle.sled_model.specs.declared.reply.CompareAndSwapError.{CompareAndSwapError}
use Rattle.tree_laws.specs.Paths.{IsClean}
use Rattle.sled.specs.Values.{DbValue, db_state}
use Rattle.sled.specs.Direct.{Conducts, StopsAtFirst, RunsAtOnce}

-- a call on a key is refused for its turns only if there was something to repair on the way, or if the way has so many levels
abbrev pub GivesUpCall : Store → Tree → Key → Error → Type 0
GivesUpCall s tree key e = TellsTurns e → (path : List ℕ) → IsClean (now s) tree.name (Included key) path → turns_limit ≤ length path

-- the map with this value at the key, or without the key for none
abbrev pub with_value : Key → Option Key → Map → Map
with_value key (Some value) map = put key_cmp key value map
with_value key None map = without key map

-- A swap that finds the one value sets the other. One that finds another value changes nothing, and returns what it found
abbrev pub Swaps : Key → Option Key → Option Key → Result (Unit {0}) CompareAndSwapError → Map → Map → Type 0
Swaps key stood made (Ok done) before after = (find key_cmp key before ≡ stood) × (after ≡ with_value key made before)
Swaps key stood made (Err e) before after = (find key_cmp key before ≢ stood) × (e ≡ record { current = find key_cmp key before; proposed = made }) × (after ≡ before)

-- a merge sets what the tree's operator makes of the value at the key and these bytes, and returns it
abbrev pub Merges : Option NamedTree → Key → Key → Option Key → Map → Map → Type 0
Merges None key bytes merged before after = ⊥
Merges (Some tree) key bytes merged before after = (merge : Merge) × (tree.merge ≡ Some merge) × (merged ≡ merge key (find key_cmp key before) bytes) × (after ≡ with_value key merged before)

-- the map without the pair that was found, if one was
abbrev pub without_found : Option (Key × Key) → Map → Map
without_found None map = map
without_found (Some pair) map = without pair.0 map

-- the map of a tree that is opened: what it had, or an empty one if it is new
abbrev pub map_opened : Option Map → Map
map_opened None = []
map_opened (Some map) = map

module _ {P M : Type 0} (store : P → Store) (meant : M → Merge) where
  -- Of the tree's map before and of the one after it this is so. The maps of all other trees are as they were
  pub record ChangesMap (old : DbValue P M) (tree : Tree) (claim : Map → Map → Type 0) (new : DbValue P M) : Type 0 where
    pub before : Map
    pub was : maps_of (db_state store meant old) tree.name ≡ Some before
    pub after : Map
    pub becomes : maps_of (db_state store meant new) tree.name ≡ Some after
    pub is : claim before after
    pub others : (name : Key) → name ≢ tree.name → maps_of (db_state store meant new) name ≡ maps_of (db_state store meant old) name

  -- what a call on a key leaves, however it came out: if it was decided a crash may leave the maps after it too
  abbrev pub leaves_as : {A : Type 0} → Result A Error → DbValue P M → DbValue P M → Type 0
  leaves_as (Ok answer) old new = Conducts store (maps_of (db_state store meant new) ∷ []) None old new
  leaves_as (Err e) old new = Conducts store [] (Some e) old new

  -- where a call stops that is refused: before its first step, or at one of them
  abbrev pub StopsCall : DbValue P M → Tree → Call → Error → DbValue P M → Type 0
  StopsCall old tree call e new = (StopsAtFirst store meant old tree call e × (new ≡ old)) ⊎ RunsAtOnce store meant old tree call (Err e) new

  -- A whole call is refused, with its cause, and the state stays as it was
  pub record RefusesCall (old : DbValue P M) (whole : Whole) (e : Error) (new : DbValue P M) : Type 0 where
    pub may : MayRefuse (db_state store meant old) (store old.pages) (store new.pages) (ToCall whole) e
    pub is : db_state store meant new ≡ db_state store meant old

  -- the name has this map now, or no tree. The maps of all other names are as they were
  pub record BecomesMap (old : DbValue P M) (name : Key) (map : Option Map) (new : DbValue P M) : Type 0 where
    pub becomes : maps_of (db_state store meant new) name ≡ map
    pub others : (other : Key) → other ≢ name → maps_of (db_state store meant new) other ≡ maps_of (db_state store meant old) other

  -- the name has the map that it had, or an empty one if its tree is new
  abbrev pub OpensMap : DbValue P M → Key → DbValue P M → Type 0
  OpensMap old name new = BecomesMap old name (Some (map_opened (maps_of (db_state store meant old) name))) new

  -- the name has no tree any more, and this is whether it had one
  pub record DropsMap (old : DbValue P M) (name : Key) (dropped : Bool) (new : DbValue P M) : Type 0 where
    pub was : dropped ≡ is_some (maps_of (db_state store meant old) name)
    pub goes : BecomesMap old name None new
