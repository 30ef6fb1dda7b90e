-- A map from keys of a type to values of a type, in a tree of a database.
use Rattle.std.specs.Prelude.{◌≡◌, ◌≢◌, ◌&&◌, ◌⊎◌, Bool, true, not, cond, map, filter, List, [], Option, Some, None, option_map}
use Rattle.std.specs.FinMap.Entries.{find, put, is_sorted}
use Rattle.std.specs.List.{AllByRecursion}
use Rattle.std.specs.Ordering.{is_lt, is_gt}
use Rattle.std.specs.declared.cmp.Ordering.{Ordering}
use Rattle.std.specs.declared.ops.Bound.{Bound}
use Rattle.std.specs.declared.ops.Bound.TheVariants.{Included, Excluded, Unbounded}
use Rattle.std.proofs.Common.{Bor}
use Rattle.ordered_keys.specs.Keys.{HasShape, spelled, parts_cmp}
use Rattle.ordered_keys.specs.declared.part.Kind.{Kind}
use Rattle.ordered_keys.specs.declared.part.Part.{Part}
use Rattle.sled_nodes.specs.Order.{Key, key_cmp}
use Rattle.sled_nodes.specs.declared.error.Error.{Error}
use Rattle.sled_nodes.specs.declared.error.Error.TheVariants.{NoMemory}
use Rattle.sled_store.specs.In.{In}
use Rattle.sled_store.specs.Store.{Store}
use Rattle.sled_model.specs.Maps.{Map, Maps, Merge}
use Rattle.sled_model.specs.declared.call.Call.TheVariants.{Insert}
use Rattle.sled_model.specs.declared.reply.Reply.TheVariants.{Value}
use Rattle.sled_model.specs.declared.tree.Tree.{Tree}
use Rattle.tree_reads.specs.Ranges.{Coming, pairs_within}
use Rattle.tree_reads.specs.Walk.{once}
use Rattle.sled.specs.Values.{DbValue}
use Rattle.sled.specs.Reads.{ReadsMap, RefusesReading, GivesUpGet}
use Rattle.sled.specs.Direct.{PointDecided, PointRefused}
use Rattle.typed_map.specs.declared.typed.TypedError.{TypedError}
use Rattle.typed_map.specs.declared.typed.TypedError.TheVariants.{Foreign, Refused}

-- how the values of a type are spelled as byte strings: what is a value of it, the bytes, and the order of the values
pub record Spelling (A : Type 0) : Type 1 where
  pub is_value : A → Type 0
  pub bytes : A → Key
  pub order : A → A → Ordering

-- a type whose values are keys of this shape, by their parts
abbrev pub by_parts : {A : Type 0} → List Kind → (A → List Part) → Spelling A
by_parts shape parts = record { is_value = λ a. HasShape shape (parts a); bytes = λ a. spelled (parts a); order = λ a b. parts_cmp (parts a) (parts b) }

-- byte strings, which are their own bytes
abbrev pub as_it_is : Spelling Key
as_it_is = record { is_value = λ b. Unit {0}; bytes = λ b. b; order = key_cmp }

-- the pairs of a tree, none if there is no tree
abbrev pub pairs_in : Option Map → Map
pairs_in None = []
pairs_in (Some map) = map

-- the key is within a lower bound, within an upper bound
abbrev pub is_above : {K : Type 0} → (K → K → Ordering) → Bound K → K → Bool
is_above order (Included b) k = not (is_lt (order k b))
is_above order (Excluded b) k = is_gt (order k b)
is_above order Unbounded k = true

abbrev pub is_below : {K : Type 0} → (K → K → Ordering) → Bound K → K → Bool
is_below order (Included b) k = not (is_gt (order k b))
is_below order (Excluded b) k = is_lt (order k b)
is_below order Unbounded k = true

-- a bound, behind its reference
abbrev pub bound_at : {K : Type 0} → Bound (Bor K) → Bound K
bound_at (Included b) = Included b.now
bound_at (Excluded b) = Excluded b.now
bound_at Unbounded = Unbounded

-- the bytes of a bound
abbrev pub bound_bytes : {A : Type 0} → Spelling A → Bound A → Bound Key
bound_bytes s (Included b) = Included (s.bytes b)
bound_bytes s (Excluded b) = Excluded (s.bytes b)
bound_bytes s Unbounded = Unbounded

module _ {K V : Type 0} (keys : Spelling K) (values : Spelling V) where
  abbrev pub pair_bytes : K × V → Key × Key
  pair_bytes e = (keys.bytes e.0, values.bytes e.1)

  -- the pairs of bytes are those of these entries
  pub record IsTyped (pairs : Map) (entries : List (K × V)) : Type 0 where
    pub is : pairs ≡ map pair_bytes entries
    pub are_values : AllByRecursion (λ e. keys.is_value e.0 × values.is_value e.1) entries

  -- one of the pairs of bytes is that of no entry
  pub record OneIsForeign (pairs : Map) : Type 0 where
    pub pair : Key × Key
    pub there : In pair pairs
    pub none : (e : K × V) → keys.is_value e.0 → values.is_value e.1 → pair ≢ pair_bytes e

  -- the tree's entries have this value at the key, in its place in the order, and all other trees are as before
  pub record Puts (old new : Maps) (tree : Key) (key : K) (value : V) : Type 0 where
    pub here : (entries : List (K × V)) → IsTyped (pairs_in (old tree)) entries → IsTyped (pairs_in (new tree)) (put keys.order key value entries)
    pub trees : (other : Key) → other ≢ tree → new other ≡ old other

  -- what is at the key among the tree's entries
  pub record LooksUp (maps : Maps) (tree : Key) (key : K) (found : Option V) : Type 0 where
    pub is : (entries : List (K × V)) → IsTyped (pairs_in (maps tree)) entries → found ≡ find keys.order key entries

  -- the tree's entries within both bounds, in order
  pub record Walks (maps : Maps) (tree : Key) (lo hi : Bound K) (found : List (K × V)) : Type 0 where
    pub are : (entries : List (K × V)) → IsTyped (pairs_in (maps tree)) entries → found ≡ filter (λ e. is_above keys.order lo e.0 && is_below keys.order hi e.0) entries
    pub rises : is_sorted keys.order found ≡ true

  -- something in the tree spells no entry
  pub record IsForeign (maps : Maps) (tree : Key) : Type 0 where
    pub is : (entries : List (K × V)) → IsTyped (pairs_in (maps tree)) entries → ⊥

-- what an iterator still gives: nothing once it has ended
abbrev pub still_given : {P : Type 0} → Coming P → Map
still_given c = cond c.ended [] c.pairs

-- something spells no value of the types, or there is this to say of what the database or the spelling refused
abbrev pub refused_as : (Error → Type 0) → TypedError → Type 0
refused_as why Foreign = Unit {0}
refused_as why (Refused e) = why e

module _ {P M : Type 0} (store : P → Store) (meant : M → Merge) where
  -- an insert of their bytes took effect
  pub record IsPut {K V : Type 0} (keys : Spelling K) (values : Spelling V) (old : DbValue P M) (tree : Tree) (key : K) (value : V) (new : DbValue P M) : Type 0 where
    pub stood : Option Key
    pub decided : PointDecided store meant old tree (Insert (keys.bytes key) (values.bytes value)) (Value stood) new

  -- the bytes at the key are those of what was found, or there are none if nothing was
  abbrev pub HasBytes : {K V : Type 0} → Spelling K → Spelling V → DbValue P M → Tree → K → Option V → Type 0
  HasBytes keys values d tree key found = ReadsMap store meant d tree (λ map. option_map values.bytes found ≡ find key_cmp (keys.bytes key) map)

  -- the bytes at the key spell no value
  pub record SpellsNone {K V : Type 0} (keys : Spelling K) (values : Spelling V) (d : DbValue P M) (tree : Tree) (key : K) : Type 0 where
    pub bytes : Key
    pub there : ReadsMap store meant d tree (λ map. Some bytes ≡ find key_cmp (keys.bytes key) map)
    pub none : (x : V) → values.is_value x → bytes ≢ values.bytes x

  -- the pairs within both bounds are those of these entries, whatever else is in the tree
  abbrev pub HasPairs : {K V : Type 0} → Spelling K → Spelling V → DbValue P M → Tree → Bound K → Bound K → List (K × V) → Type 0
  HasPairs keys values d tree lo hi found = ReadsMap store meant d tree (λ map. IsTyped keys values (pairs_within (bound_bytes keys lo) (bound_bytes keys hi) map) found)

  -- a pair within both bounds is that of no entry
  abbrev pub HasForeign : {K V : Type 0} → Spelling K → Spelling V → DbValue P M → Tree → Bound K → Bound K → Type 0
  HasForeign keys values d tree lo hi = ReadsMap store meant d tree (λ map. OneIsForeign keys values (pairs_within (bound_bytes keys lo) (bound_bytes keys hi) map))

  -- refused for want of memory to spell the key or the value, and then nothing was done, or as an insert of their bytes is
  pub record RefusesPut {K V : Type 0} (keys : Spelling K) (values : Spelling V) (old : DbValue P M) (tree : Tree) (key : K) (value : V) (e : Error) (new : DbValue P M) : Type 0 where
    pub is : ((e ≡ NoMemory) × (new ≡ old)) ⊎ PointRefused store meant old tree (Insert (keys.bytes key) (values.bytes value)) e new

  -- refused for want of memory, or as a get of the key's bytes is
  pub record RefusesLookUp {K : Type 0} (keys : Spelling K) (d : DbValue P M) (tree : Tree) (key : K) (e : Error) : Type 0 where
    pub is : (e ≡ NoMemory) ⊎ (RefusesReading store meant d tree once e × GivesUpGet store meant d tree (keys.bytes key) e)

  -- refused for want of memory, or as the reading of the tree's pages from left to right is
  pub record RefusesListing (d : DbValue P M) (tree : Tree) (e : Error) : Type 0 where
    pub is : (e ≡ NoMemory) ⊎ RefusesReading store meant d tree once e
