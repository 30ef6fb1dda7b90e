-- Who has which seat.
use Rattle.std.specs.Prelude.{◌≡◌, ◌≢◌, Bool, true, false, [], Option, Some, None}
use Rattle.std.specs.FinMap.Entries.{find, put}
use Rattle.sled_nodes.specs.Order.{Key, key_cmp}
use Rattle.sled_store.specs.Store.{Store}
use Rattle.sled_model.specs.Maps.{Map, Merge}
use Rattle.sled_model.specs.State.{maps_of}
use Rattle.sled_model.specs.declared.tree.Tree.{Tree}
use Rattle.sled.specs.Values.{DbValue, db_state}

-- the pairs of a tree, of which there are none if there is no tree
abbrev pub pairs_of : Option Map → Map
pairs_of None = []
pairs_of (Some map) = map

-- each seat that is taken, with its guest
abbrev pub plan : {P M : Type 0} → (P → Store) → (M → Merge) → DbValue P M → Tree → Map
plan store meant db seats = pairs_of (maps_of (db_state store meant db) seats.name)

-- A seat that was free has the guest now. One that was not stays as it is. No other seat changes
abbrev pub Reserves : Map → Key → Key → Bool → Map → Type 0
Reserves before seat guest true after = (find key_cmp seat before ≡ None) × (after ≡ put key_cmp seat guest before)
Reserves before seat guest false after = (find key_cmp seat before ≢ None) × (after ≡ before)
