-- Of Opens, for proofs. What opening a database does.
use Rattle.std.specs.Prelude.{◌≡◌, ℕ, List, map, None}
use Rattle.sled_nodes.specs.Order.{Key}
use Rattle.sled_store.specs.Store.{Store, now, IsRoots}
use Rattle.sled_store.specs.State.{State}
use Rattle.tree_laws.specs.Contents.{trees_of}
use Rattle.sled.specs.Opens.{with_tree, numbered, GrowsByTree, CanBeOpened, IsOnePage}

-- there is a tree of this name now, and no fault was met
pub record HasTree (name : Key) (old new : Store) : Type 0 where
  pub grows : GrowsByTree name old new
  pub maps : trees_of (now new) ≡ with_tree name (trees_of (now old))
  pub fresh : trees_of (now old) name ≡ None → IsOnePage (now new) name
  pub faults : new.faults ≡ old.faults
  pub again : CanBeOpened name old new

-- the names that have roots are numbered from 1, in their order
pub record AreNumbered (s : State) (trees : List (Key × ℕ)) : Type 0 where
  pub roots : List (Key × ℕ)
  pub all : IsRoots s roots
  pub is : trees ≡ numbered 0 (map (λ r. r.0) roots)
