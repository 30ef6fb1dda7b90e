-- What calls on many keys make of the maps: clears, imports, and removals of all keys within two bounds.
use Rattle.std.specs.Prelude.{◌≡◌, ◌≢◌, ◌⊎◌, ℕ, ◌&&◌, not, filter, List, [], ◌∷◌, ◌++◌, length, Option, Some, option_map, if◌then◌else◌}
use Rattle.std.specs.FinMap.Entries.{put}
use Rattle.std.specs.Str.{bytes_eq}
use Rattle.std.specs.declared.ops.Bound.{Bound}
use Rattle.sled_nodes.specs.Among.{is_from, is_up_to}
use Rattle.sled_nodes.specs.Order.{Key, key_cmp}
use Rattle.sled_store.specs.Store.{Store}
use Rattle.sled_nodes.specs.declared.error.Error.{Error}
use Rattle.sled_model.specs.Maps.{Map, Maps, Merge}
use Rattle.sled_model.specs.Collections.{Content}
use Rattle.sled_model.specs.Imports.{Part, OpensName, Puts, parts_of, refuses_part}
use Rattle.sled_model.specs.Refusal.{MayRefuse, ToCall, must_refuse_of, cause_of_import, may_refuse_as}
use Rattle.sled_model.specs.State.{maps_of}
use Rattle.sled_model.specs.declared.call.Whole.TheVariants.{Clear}
use Rattle.sled_model.specs.declared.tree.Tree.{Tree}
use Rattle.tree_reads.specs.Ranges.{pairs_within}
use Rattle.sled.specs.Values.{DbValue, db_state}
use Rattle.sled.specs.Parts.{told_parts}
use Rattle.sled.specs.Promises.{ChangesMap, map_opened}

-- the map without the pairs within both bounds
abbrev pub without_within : Bound Key → Bound Key → Map → Map
without_within lo hi map = filter (λ e. not (is_from lo e.0 && is_up_to hi e.0)) map

-- the map lost its first pairs, and so many they were
pub record LosesFirst (number : ℕ) (before after : Map) : Type 0 where
  pub gone : Map
  pub is : before ≡ gone ++ after
  pub told : number ≡ told_parts (length gone)

-- the map of a name after one part of an import: its tree was opened, or the pair was put into it
abbrev pub map_after_part : Part → Key → Option Map → Option Map
map_after_part (OpensName opened) name map = if bytes_eq name opened then Some (map_opened map) else map
map_after_part (Puts into key value) name map = if bytes_eq name into then option_map (put key_cmp key value) map else map

-- .. and after these, in order
abbrev pub map_after_parts : List Part → Key → Option Map → Option Map
map_after_parts [] name map = map
map_after_parts (part ∷ parts) name map = map_after_parts parts name (map_after_part part name map)

module _ {P M : Type 0} (store : P → Store) (meant : M → Merge) where
  -- ---- clears

  -- A clear is refused, with its cause, and so many pairs are out: none, and then the state is as it was; or the first of the tree's map
  pub record RefusesClear (old : DbValue P M) (tree : Tree) (number : ℕ) (e : Error) (new : DbValue P M) : Type 0 where
    pub may : MayRefuse (db_state store meant new) (store old.pages) (store new.pages) (ToCall (Clear tree)) e
    pub is : ((number ≡ 0) × (db_state store meant new ≡ db_state store meant old)) ⊎ ChangesMap store meant old tree (LosesFirst number) new

  -- these maps are those of before, but that the tree lacks its first pairs
  pub record LackFirst (old : DbValue P M) (tree : Tree) (maps : Maps) : Type 0 where
    pub gone : Map
    pub after : Map
    pub was : maps_of (db_state store meant old) tree.name ≡ Some (gone ++ after)
    pub is : maps tree.name ≡ Some after
    pub others : (name : Key) → name ≢ tree.name → maps name ≡ maps_of (db_state store meant old) name

  -- ---- imports

  -- these maps are those of before, and these parts are done
  abbrev pub have_parts : DbValue P M → List Part → Maps → Type 0
  have_parts old parts maps = (name : Key) → maps name ≡ map_after_parts parts name (maps_of (db_state store meant old) name)

  -- .. so are the first of these parts
  pub record HaveFirst (old : DbValue P M) (parts : List Part) (maps : Maps) : Type 0 where
    pub done : List Part
    pub later : List Part
    pub first : parts ≡ done ++ later
    pub is : have_parts old done maps

  -- the maps are those of before, and all that these collections hold is in
  pub record ImportsMaps (old : DbValue P M) (all : List Content) (new : DbValue P M) : Type 0 where
    pub is : have_parts old (parts_of all) (maps_of (db_state store meant new))

  -- an import is refused before its first part, or at the part behind those that are done
  abbrev pub stops_behind : DbValue P M → List Content → List Part → Error → DbValue P M → Type 0
  stops_behind old all done e new =
      ((done ≡ []) × may_refuse_as (must_refuse_of (db_state store meant old) []) (cause_of_import all) e)
      ⊎ ((next : Part) × (later : List Part) × (parts_of all ≡ done ++ next ∷ later) × refuses_part (db_state store meant new) (store old.pages) (store new.pages) next e)

  -- An import is refused, with its cause. So many parts are done, the first ones, and no map is changed by another
  pub record RefusesImport (old : DbValue P M) (all : List Content) (number : ℕ) (e : Error) (new : DbValue P M) : Type 0 where
    pub done : List Part
    pub told : number ≡ told_parts (length done)
    pub is : have_parts old done (maps_of (db_state store meant new))
    pub why : stops_behind old all done e new

  -- ---- removals of a range

  -- the pairs within the bounds went, so many as there were, and all others stay
  abbrev pub RemovesWithin : DbValue P M → Tree → Bound Key → Bound Key → ℕ → DbValue P M → Type 0
  RemovesWithin old tree lo hi count new = ChangesMap store meant old tree (λ before after. (count ≡ length (pairs_within lo hi before)) × (after ≡ without_within lo hi before)) new
