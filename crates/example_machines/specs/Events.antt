-- An event store: streams of events in the trees of a database.
use Rattle.std.specs.Prelude.{◌≡◌, ◌≢◌, ℕ, ◌+◌, ◌<◌, ◌≤◌, ◌^◌, nat_le, map, filter, List, [], ◌∷◌, ◌++◌, Some}
use Rattle.std.specs.List.{AllByRecursion}
use Rattle.ordered_keys.specs.Keys.{spelled}
use Rattle.ordered_keys.specs.declared.part.Part.TheVariants.{Number}
use Rattle.sled_nodes.specs.Order.{Key}
use Rattle.sled_store.specs.Store.{Store}
use Rattle.sled_model.specs.Maps.{Map, Merge}
use Rattle.sled_model.specs.declared.tree.Tree.{Tree}
use Rattle.sled.specs.Opens.{with_tree}
use Rattle.sled.specs.Values.{DbValue}
use Rattle.machine_alone.specs.Ids.{RiseBetween}
use Rattle.example_parts.specs.Reads.{maps_now}

-- its id, and its bytes
abbrev pub Event : Type 0
Event = ℕ × Key

-- the pairs of a tree that has these events: the bytes of each are at the eight bytes of its id
abbrev pub pairs_of : List Event → Map
pairs_of events = map (λ e. (spelled (Number e.0 ∷ []), e.1)) events

module _ {P M : Type 0} (store : P → Store) (meant : M → Merge) where
  -- the stream has these events and no others: their ids rise from one to the next, and were given
  pub record HasEvents (d : DbValue P M) (stream : Key) (events : List Event) : Type 0 where
    pub pairs : maps_now store meant d stream ≡ Some (pairs_of events)
    pub rise : RiseBetween 0 (map (λ e. e.0) events) d.greatest_id
    pub fit : AllByRecursion (λ e. e.0 < 2 ^ 64) events

  -- every stream has the events that it had
  pub record KeepsStreams (old new : DbValue P M) : Type 0 where
    pub maps : maps_now store meant new ≡ maps_now store meant old
    pub ids : old.greatest_id ≤ new.greatest_id

  -- the stream of a new name has no events, and every other stream has those that it had
  pub record OpensStream (old : DbValue P M) (name : Key) (stream : Tree) (new : DbValue P M) : Type 0 where
    pub named : stream.name ≡ name
    pub maps : maps_now store meant new ≡ with_tree name (maps_now store meant old)
    pub ids : new.greatest_id ≡ old.greatest_id

  -- The event has the next id, and follows all that the stream had. Other streams are as they were
  pub record Appends (old : DbValue P M) (stream : Key) (id : ℕ) (bytes : Key) (new : DbValue P M) : Type 0 where
    pub next : id ≡ old.greatest_id + 1
    pub given : new.greatest_id ≡ id
    pub behind : (events : List Event) → HasEvents old stream events → HasEvents new stream (events ++ (id, bytes) ∷ [])
    pub others : (other : Key) → other ≢ stream → maps_now store meant new other ≡ maps_now store meant old other

  -- these are all events of the stream from an id on, in its order
  pub record ReadsFrom (d : DbValue P M) (stream : Key) (from : ℕ) (found : List Event) : Type 0 where
    pub is : (events : List Event) → HasEvents d stream events → found ≡ filter (λ e. nat_le from e.0) events
