-- A load of many pairs into a tree, in batches.
use Rattle.std.specs.Prelude.{◌≡◌, ◌⊎◌, ℕ, ◌*◌, take, [], ◌∷◌, Some, option_map, if◌then◌else◌}
use Rattle.std.specs.FinMap.Entries.{put}
use Rattle.std.specs.Str.{bytes_eq}
use Rattle.sled_nodes.specs.Order.{Key, key_cmp}
use Rattle.sled_batch.specs.Batch.{Writes}
use Rattle.sled_store.specs.State.{State}
use Rattle.sled_store.specs.Store.{Store}
use Rattle.sled_store.specs.Crash.{IsCrashState}
use Rattle.sled_model.specs.Maps.{Map, Maps, Merge}
use Rattle.tree_laws.specs.Contents.{trees_of}
use Rattle.tree_laws.specs.Crashes.{AddsCrashStates}
use Rattle.sled.specs.Values.{DbValue}
use Rattle.example_parts.specs.Reads.{maps_now}

-- the map once these pairs were put into it, one after the other
abbrev pub put_all : Map → Map → Map
put_all [] map = map
put_all (p ∷ ps) map = put_all ps (put key_cmp p.0 p.1 map)

-- the maps, with these pairs put into one of them
abbrev pub with_pairs : Key → Map → Maps → Maps
with_pairs tree pairs maps name = if bytes_eq name tree then option_map (put_all pairs) (maps name) else maps name

-- how many pairs a batch has at most
abbrev pub batch_size : ℕ
batch_size = 100

-- A crash may leave what it might have left before, or the maps with a beginning of the batches, each with all its pairs
pub record LeavesBatches (old : Store) (before : Maps) (tree : Key) (pairs : Map) (new : Store) : Type 0 where
  pub is : (state : State) → IsCrashState new state
      → ((earlier : State) × IsCrashState old earlier × (trees_of state ≡ trees_of earlier)) ⊎ ((batches : ℕ) × (trees_of state ≡ with_pairs tree (take (batches * batch_size) pairs) before))

-- ---- one batch

-- the writes of a batch once these pairs are written too
abbrev pub written : Map → Writes → Writes
written [] writes = writes
written (p ∷ ps) writes = written ps (put key_cmp p.0 (Some p.1) writes)

module _ {P M : Type 0} (store : P → Store) where
  -- these pairs were put into a tree, and a crash may leave that besides
  pub record LoadsBatch (meant : M → Merge) (old : DbValue P M) (tree : Key) (pairs : Map) (new : DbValue P M) : Type 0 where
    pub maps : maps_now store meant new ≡ with_pairs tree pairs (maps_now store meant old)
    pub adds : AddsCrashStates (maps_now store meant new ∷ []) (store old.pages) (store new.pages)

  -- they were not, and a crash may leave nothing else
  pub record StopsBatch (old new : DbValue P M) : Type 0 where
    pub adds : AddsCrashStates [] (store old.pages) (store new.pages)
