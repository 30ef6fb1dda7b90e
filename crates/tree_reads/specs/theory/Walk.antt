-- Of Walk, for proofs. Reading walks, which repair nothing.
use Rattle.std.specs.Prelude.{◌≡◌, ◌≢◌, ◌⊎◌, ℕ, suc, ◌<◌, Bool, true, List, [], length, Option, Some, None}
use Rattle.std.specs.declared.ops.Bound.{Bound}
use Rattle.std.specs.declared.ops.Bound.TheVariants.{Included}
use Rattle.sled_nodes.specs.Order.{Key}
use Rattle.sled_store.specs.In.{In}
use Rattle.sled_nodes.specs.Among.{is_up_to}
use Rattle.sled_store.specs.State.{Nodes}
use Rattle.sled_nodes.specs.declared.node.Node.{Node}
use Rattle.sled_nodes.specs.declared.node.Data.{Data}
use Rattle.sled_nodes.specs.declared.node.Data.TheVariants.{Leaf, Index}
use Rattle.sled_store.specs.declared.page.View.{View}
use Rattle.tree_laws.specs.Forest.{Tree, Forest, place, WellFormed}
use Rattle.tree_laws.specs.Paths.{CleanFrom, IsAhead}
use Rattle.tree_reads.specs.Walk.{IsUnder}

abbrev pub IsIndex : Data → Type 0
IsIndex (Leaf es) = ⊥
IsIndex (Index es) = Unit {0}

-- the bound is behind the page
abbrev pub LiesBehind : Bound Key → Node → Type 0
LiesBehind target n = (n.hi ≢ []) × (is_up_to target n.hi ≡ true)

-- A walk to the target is at a page of the tree that begins within it, with so many pages ahead
pub record Stands (nodes : Nodes) (w : Forest) (t : Tree) (target : Bound Key) (p ahead : ℕ) : Type 0 where
  pub height : ℕ
  pub node : Node
  pub live : nodes p ≡ Some node
  pub begins : is_up_to target node.lo ≡ true
  pub is : IsAhead w t height p ahead

-- it ends at the leaf, or goes on with fewer pages ahead
abbrev pub turns_as : Nodes → Forest → Tree → Bound Key → ℕ → Node → ℕ → Option ℕ → Type 0
turns_as nodes w t target p n ahead None = IsUnder target n × In p (w.chain (place t 0))
turns_as nodes w t target p n ahead (Some q) = (k : ℕ) × (k < ahead) × Stands nodes w t target q k

-- along a clean path it goes to the next page of the path
abbrev pub keeps_path : Nodes → Key → List ℕ → Option ℕ → Type 0
keeps_path nodes key path None = Unit {0}
keeps_path nodes key path (Some q) = (first : Bool) × (rest : List ℕ) × (length path ≡ suc (length rest)) × CleanFrom nodes (Included key) q first rest

pub record Turns (target : Bound Key) (n : Node) (to : Option ℕ) : Type 0 where
  pub is : (nodes : Nodes) (roots : Tree → Option ℕ) (w : Forest) → WellFormed nodes roots w → (t : Tree) (p ahead : ℕ) → nodes p ≡ Some n → Stands nodes w t target p ahead
      → turns_as nodes w t target p n ahead to
  pub clean : (nodes : Nodes) (key : Key) (p : ℕ) (first : Bool) (path : List ℕ) → target ≡ Included key → nodes p ≡ Some n → CleanFrom nodes (Included key) p first path → keeps_path nodes key path to

-- from a page that begins within the target it goes on there
pub record GoesDown (target : Bound Key) (n : Node) (to : Option ℕ) : Type 0 where
  pub is : (q : ℕ) → to ≡ Some q → (is_up_to target n.lo ≡ true) × Turns target n (Some q)

-- .. and so from a page of a way, or it begins at the root
pub record BeginsWalk (target : Bound Key) (way : List View) (root p : ℕ) : Type 0 where
  pub is : (p ≡ root) ⊎ ((v : View) × In v way × (is_up_to target v.node.lo ≡ true) × Turns target v.node (Some p))

-- a page that was passed is one of the way, at the most
pub record KeepsWay (old : List View) (v : View) (new : List View) : Type 0 where
  pub is : (u : View) → In u new → In u old ⊎ (u ≡ v)
