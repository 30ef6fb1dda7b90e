-- A stock in two trees: a table of the place of each item, and an index of the items of each place.
use Rattle.std.specs.Prelude.{◌≡◌, ◌≢◌, ℕ, ◌≤◌, length, false, [], ◌∷◌, Option, Some, None}
use Rattle.std.specs.FinMap.Entries.{put}
use Rattle.ordered_keys.specs.Keys.{spelled}
use Rattle.ordered_keys.specs.declared.part.Part.TheVariants.{Text}
use Rattle.sled_nodes.specs.Order.{Key, key_cmp}
use Rattle.sled_batch.specs.Batch.{Writes}
use Rattle.sled_store.specs.State.{State}
use Rattle.sled_store.specs.Store.{Store, now}
use Rattle.sled_store.specs.Crash.{IsCrashState, Crashes}
use Rattle.sled_model.specs.Maps.{Maps, Merge}
use Rattle.tree_laws.specs.Contents.{trees_of}
use Rattle.sled.specs.Opens.{with_default}
use Rattle.sled.specs.Values.{DbValue}
use Rattle.example_parts.specs.Reads.{found_in, maps_now}

-- the key of an entry of the index: its place, and then its item
abbrev pub entry_key : Key → Key → Key
entry_key place item = spelled (Text place ∷ Text item ∷ [])

-- The index has an entry for each item of the table, at its place, and no others: what the two have at each key
pub record Agree (table index : Key → Option Key) : Type 0 where
  pub has : (item place : Key) → table item ≡ Some place → index (entry_key place item) ≡ Some item
  pub only : (key item : Key) → index key ≡ Some item → (place : Key) × (table item ≡ Some place) × (key ≡ entry_key place item)

-- the trees of these names agree
abbrev pub AgreeIn : Maps → Key → Key → Type 0
AgreeIn maps table index = Agree (found_in (maps table)) (found_in (maps index))

-- The two are two trees. They agree now, unless a group is open, and in all that a crash may leave
pub record Agrees (s : Store) (table index : Key) : Type 0 where
  pub apart : table ≢ index
  pub as_is : (now s).in_group ≡ false → AgreeIn (trees_of (now s)) table index
  pub left : (state : State) → IsCrashState s state → AgreeIn (trees_of state) table index

module _ {P M : Type 0} (store : P → Store) (meant : M → Merge) (old : DbValue P M) (table index : Key) where
  -- An item went from one place to another, or from none or to none. All others are where they were, and the two trees agree still
  pub record Moves (item : Key) (from to : Option Key) (new : DbValue P M) : Type 0 where
    pub agrees : Agrees (store new.pages) table index
    pub was : found_in (maps_now store meant old table) item ≡ from
    pub is : found_in (maps_now store meant new table) item ≡ to
    pub others : (other : Key) → other ≢ item → found_in (maps_now store meant new table) other ≡ found_in (maps_now store meant old table) other

  -- .. or it did not: every map is as it was, unless the database is closed now, and the two trees agree still. A crash that keeps all
  -- actions leaves every tree as it was, in a closed database too
  pub record Stays (new : DbValue P M) : Type 0 where
    pub agrees : Agrees (store new.pages) table index
    pub same : (now (store new.pages)).in_group ≡ false → maps_now store meant new ≡ maps_now store meant old
    pub back : (keep : ℕ) (left : Store) → (now (store old.pages)).in_group ≡ false → Crashes keep (store new.pages) left → length (store new.pages).recent ≤ keep → trees_of (now left) ≡ trees_of (now (store old.pages))

-- The pages crashed, of whose last actions so many were kept, and what was left of them was opened again
pub record Recovers (keep : ℕ) (old new : Store) : Type 0 where
  pub left : Store
  pub crashes : Crashes keep old left
  pub maps : trees_of (now new) ≡ with_default (trees_of (now left))

-- What is written in the table and in the index if the item was at this place, or at none
abbrev pub item_taken : Key → Option Key → Writes → Writes
item_taken item None writes = writes
item_taken item (Some place) writes = put key_cmp item None writes

abbrev pub entry_taken : Key → Option Key → Writes → Writes
entry_taken item None writes = writes
entry_taken item (Some place) writes = put key_cmp (entry_key place item) None writes

-- .. and if it is to be at this one, or at none
abbrev pub item_put : Key → Option Key → Writes → Writes
item_put item None writes = writes
item_put item (Some place) writes = put key_cmp item (Some place) writes

abbrev pub entry_put : Key → Option Key → Writes → Writes
entry_put item None writes = writes
entry_put item (Some place) writes = put key_cmp (entry_key place item) (Some item) writes
