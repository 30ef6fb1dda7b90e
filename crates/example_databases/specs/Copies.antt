-- What an import of an export makes of a database.
use Rattle.std.specs.Prelude.{◌≡◌, [], Some}
use Rattle.std.specs.FinMap.Entries.{find}
use Rattle.sled_nodes.specs.Order.{Key, key_cmp}
use Rattle.sled_model.specs.State.{State, NamedTree}

-- no tree holds a pair
pub record HoldsNothing (s : State) : Type 0 where
  pub is : (name : Key) (tree : NamedTree) → s.trees name ≡ Some tree → tree.map ≡ []

-- the name has a tree that has this tree's map
pub record HasMapOf (s : State) (name : Key) (tree : NamedTree) : Type 0 where
  pub named : NamedTree
  pub there : s.trees name ≡ Some named
  pub same : named.map ≡ tree.map

-- Each tree of the first is in the second by its name, with the same map
pub record HasAllOf (first second : State) : Type 0 where
  pub is : (name : Key) (tree : NamedTree) → first.trees name ≡ Some tree → HasMapOf second name tree

-- the name has this tree still, with its number and its operator, and each pair that it had
pub record KeepsTree (s : State) (name : Key) (tree : NamedTree) : Type 0 where
  pub named : NamedTree
  pub there : s.trees name ≡ Some named
  pub number : named.number ≡ tree.number
  pub merge : named.merge ≡ tree.merge
  pub pairs : (key value : Key) → find key_cmp key tree.map ≡ Some value → find key_cmp key named.map ≡ Some value

-- Nothing is lost: each tree is still there, with each pair that it had
pub record LosesNothing (old new : State) : Type 0 where
  pub is : (name : Key) (tree : NamedTree) → old.trees name ≡ Some tree → KeepsTree new name tree
