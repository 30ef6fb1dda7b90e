-- What reads answer, and why they are refused.
use Rattle.std.specs.Prelude.{◌≡◌, ℕ, ◌<◌, ◌≤◌, false, List, [], ◌∷◌, Option, Some, None, length}
use Rattle.std.specs.List.{AllByRecursion}
use Rattle.std.specs.declared.ops.Bound.{Bound}
use Rattle.std.specs.declared.ops.Bound.TheVariants.{Included}
use Rattle.sled_nodes.specs.Order.{Key}
use Rattle.sled_nodes.specs.Ranges.{is_reversed}
use Rattle.sled_store.specs.Store.{Store, now, refuses_read_as}
use Rattle.sled_nodes.specs.declared.error.Error.{Error}
use Rattle.sled_nodes.specs.declared.error.Error.TheVariants.{NoMemory, ReportableBug, Io}
use Rattle.sled_nodes.specs.declared.texts.TheConstants.{WALK_PASSED_TURNS}
use Rattle.sled_model.specs.Maps.{Map, Merge}
use Rattle.sled_model.specs.State.{NamedTree}
use Rattle.sled_model.specs.Refusal.{MustRefuse, must_refuse_of, tells}
use Rattle.sled_model.specs.declared.tree.Tree.{Tree}
use Rattle.tree_laws.specs.Paths.{IsClean, tree_pages}
use Rattle.tree_reads.specs.Walk.{IsTreePage}
use Rattle.tree_reads.specs.Ranges.{Coming, pairs_within}
use Rattle.tree_reads.specs.Prefixes.{IsBytes, raised, pairs_beginning}
use Rattle.tree_reads.specs.declared.TheConstants.{MOST_PAGES}
use Rattle.sled.specs.Values.{DbValue, db_state}

module _ {P M : Type 0} (store : P → Store) (meant : M → Merge) (d : DbValue P M) (tree : Tree) where
  -- none of the tests fails, and it is so of the tree's map
  pub record ReadsMap (claim : Map → Type 0) : Type 0 where
    pub tested : must_refuse_of (db_state store meant d) (tree ∷ []) ≡ None
    pub named : NamedTree
    pub there : (db_state store meant d).trees tree.name ≡ Some named
    pub is : claim named.map

  -- the iterator begins with the pairs of the tree's map within the bounds, over the pages and the root of the tree as they are
  pub record BeginsRange (lo hi : Bound Key) (pairs : Coming P) : Type 0 where
    pub over : pairs.pages ≡ d.pages
    pub root : (now (store d.pages)).roots tree.name ≡ Some pairs.root
    pub all : ReadsMap (λ map. pairs.pairs ≡ pairs_within lo hi map)
    pub ended : pairs.ended ≡ is_reversed lo hi

  -- The iterator begins with the pairs of the tree's map from a prefix on and below what it is raised to, over the pages as they are. If
  -- the keys of these are byte strings, as all keys are that it can give, they are the pairs whose keys begin with the prefix
  pub record BeginsWith (prefix : Key) (pairs : Coming P) : Type 0 where
    pub over : pairs.pages ≡ d.pages
    pub root : (now (store d.pages)).roots tree.name ≡ Some pairs.root
    pub all : ReadsMap (λ map. pairs.pairs ≡ pairs_within (Included prefix) (raised prefix) map)
    pub beginning : AllByRecursion (λ e. IsBytes e.0) pairs.pairs → ReadsMap (λ map. pairs.pairs ≡ pairs_beginning prefix map)
    pub ended : pairs.ended ≡ false

  -- want of memory, a page of the tree that is not readable, or as many pages looked at as may be: the tree has so many that this
  -- function of their number reaches the limit
  abbrev pub stops_reading : (ℕ → ℕ) → Error → Type 0
  stops_reading of (Io fault) = (pid : ℕ) × ((store d.pages).is_readable pid ≡ false) × IsTreePage (now (store d.pages)) tree.name pid
  stops_reading of (ReportableBug text) = (text.now ≡ WALK_PASSED_TURNS.now) × (MOST_PAGES ≤ of (tree_pages (now (store d.pages)) tree.name))
  stops_reading of e = refuses_read_as (store d.pages) e

  abbrev pub refuses_reading_as : (ℕ → ℕ) → Option MustRefuse → Error → Type 0
  refuses_reading_as of (Some must) e = tells must e
  refuses_reading_as of None e = stops_reading of e

  -- refused by the first of the tests that fails, or if none fails for one of these causes
  pub record RefusesReading (of : ℕ → ℕ) (e : Error) : Type 0 where
    pub is : refuses_reading_as of (must_refuse_of (db_state store meant d) (tree ∷ [])) e

  abbrev pub refuses_range_as : Option MustRefuse → Error → Type 0
  refuses_range_as (Some must) e = tells must e
  refuses_range_as None e = e ≡ NoMemory

  -- refused by the first of the tests that fails, or if none fails for want of memory
  pub record RefusesRange (e : Error) : Type 0 where
    pub is : refuses_range_as (must_refuse_of (db_state store meant d) (tree ∷ [])) e

  abbrev pub gives_up_get_as : Key → Error → Type 0
  gives_up_get_as key (ReportableBug text) = (path : List ℕ) → IsClean (now (store d.pages)) tree.name (Included key) path → MOST_PAGES < length path
  gives_up_get_as key e = Unit {0}

  -- over a clean path to the key a read is refused for its pages only if the path has more pages than may be looked at
  pub record GivesUpGet (key : Key) (e : Error) : Type 0 where
    pub is : gives_up_get_as key e
