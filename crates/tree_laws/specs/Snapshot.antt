-- The store at one moment, what every action of a call keeps for the others, and what a call in flight knows.
use Rattle.std.specs.Prelude.{◌≡◌, ◌≢◌, ℕ, ◌<◌, ◌≤◌, ◌^◌, ◌⊎◌, Bool, true, false, List, [], Option, Some, None}
use Rattle.std.specs.declared.ops.Bound.{Bound}
use Rattle.sled_nodes.specs.Order.{Key}
use Rattle.sled_store.specs.In.{In}
use Rattle.sled_nodes.specs.Among.{is_up_to}
use Rattle.sled_nodes.specs.Node.{count}
use Rattle.sled_store.specs.State.{State, Nodes, nodes_of}
use Rattle.sled_store.specs.Store.{Store, now}
use Rattle.sled_nodes.specs.declared.node.Node.{Node}
use Rattle.sled_nodes.specs.declared.node.Data.TheVariants.{Leaf}
use Rattle.sled_store.specs.declared.page.Page.{Page}
use Rattle.sled_store.specs.declared.page.View.{View}
use Rattle.tree_laws.specs.Forest.{Tree, Forest, Place, place, WellFormed, IsNodeAt}

-- The pages and roots now, the page numbers and versions ever given, each tree's number now, and the tree numbers ever given
pub record Snapshot : Type 0 where
  pub state : State
  pub pids : ℕ → Bool
  pub versions : ℕ → Bool
  pub numbers : Tree → Option ℕ
  pub given : ℕ → Bool

-- a store now, if the trees have these numbers
abbrev pub snapshot_of : Store → (Tree → Option ℕ) → (ℕ → Bool) → Snapshot
snapshot_of s numbers given = record { state = now s; pids = s.pids; versions = s.versions; numbers = numbers; given = given }

-- the nodes by page number
abbrev pub nodes_at : Snapshot → Nodes
nodes_at m = nodes_of m.state

pub record HasForest (m : Snapshot) (w : Forest) : Type 0 where
  -- each page has a number and a version that were given, and its number fits 64 bits
  pub pids : (p : ℕ) (g : Page) → m.state.pages p ≡ Some g → m.pids p ≡ true
  pub versions : (p : ℕ) (g : Page) → m.state.pages p ≡ Some g → m.versions g.version ≡ true
  pub below : (p : ℕ) (g : Page) → m.state.pages p ≡ Some g → p < 2 ^ 64
  -- a name has a number exactly if it has a root
  pub numbered : (t : Tree) (r : ℕ) → m.state.roots t ≡ Some r → (n : ℕ) × (m.numbers t ≡ Some n)
  pub rooted : (t : Tree) (n : ℕ) → m.numbers t ≡ Some n → (r : ℕ) × (m.state.roots t ≡ Some r)
  -- a tree's number was given, and is no other tree's
  pub given : (t : Tree) (n : ℕ) → m.numbers t ≡ Some n → m.given n ≡ true
  pub apart : (t u : Tree) (n : ℕ) → m.numbers t ≡ Some n → m.numbers u ≡ Some n → t ≡ u
  pub formed : WellFormed (nodes_at m) m.state.roots w

-- p has no home
abbrev pub IsOrphan : Forest → ℕ → Type 0
IsOrphan w p = (y : Place) → w.home p ≢ Some y

-- p is live with this lo, and is in the chain at x or is merging
abbrev pub IsInChain : Nodes → Forest → Place → Key → ℕ → Type 0
IsInChain nodes w x lo p = (n : Node) × (nodes p ≡ Some n) × (n.lo ≡ lo) × (In p (w.chain x) ⊎ (n.merging ≡ true))

-- a view of the page p at version v as the node n: it speaks of the page while the page has this version
pub record IsReadAs (m : Snapshot) (p v : ℕ) (n : Node) : Type 0 where
  pub given : m.versions v ≡ true
  pub speaks : (g : Page) → m.state.pages p ≡ Some g → g.version ≡ v → g.node ≡ n

-- p was in the chain at x of the tree of this number, with this lo. Now the tree's number is not the name's, or the page is gone, or it is
-- live with this lo and is in the chain or merging
pub record StoodInChain (m : Snapshot) (w : Forest) (x : Place) (number : ℕ) (lo : Key) (p : ℕ) : Type 0 where
  pub page : m.pids p ≡ true
  pub tree : m.given number ≡ true
  pub now : (m.numbers x.tree ≢ Some number) ⊎ ((nodes_at m p ≡ None) ⊎ IsInChain (nodes_at m) w x lo p)

-- neither merging nor with a merging child
pub record IsOpen (n : Node) : Type 0 where
  pub not_merging : n.merging ≡ false
  pub free : n.merging_child ≡ None

-- the page has this version still
pub record IsAtVersion (m : Snapshot) (look : View) : Type 0 where
  pub page : Page
  pub live : m.state.pages look.pid ≡ Some page
  pub same : page.version ≡ look.version

-- an open page that was read in the chain at x
pub record SeenOpen (m : Snapshot) (w : Forest) (x : Place) (number : ℕ) (look : View) : Type 0 where
  pub view : IsReadAs m look.pid look.version look.node
  pub stood : StoodInChain m w x number look.node.lo look.pid
  pub is_open : IsOpen look.node
  pub sound : IsNodeAt x.height look.node

-- the node may hold what a walk aims at: it begins within the aim, and does not end within it
abbrev pub LiesUnder : Bound Key → Node → Type 0
LiesUnder aim n = (is_up_to aim n.lo ≡ true) × ((n.hi ≡ []) ⊎ (is_up_to aim n.hi ≡ false))

-- a leaf that is under the aim
pub record IsActing (m : Snapshot) (w : Forest) (t : Tree) (number : ℕ) (aim : Bound Key) (look : View) : Type 0 where
  pub seen : SeenOpen m w (place t 0) number look
  pub under : LiesUnder aim look.node
  pub es : List (Key × Key)
  pub content : look.node.content ≡ Leaf es

-- a view that takes one entry more and still need not be split
pub record HasRoomForOne (look : View) : Type 0 where
  pub fits : count look.node.content ≤ 16
