-- Reading walks, which repair nothing.
use Rattle.std.specs.Prelude.{◌≡◌, ℕ, ◌+◌, ◌*◌, ◌<◌, ◌≤◌, ◌⊎◌, Bool, true, false, List, [], length, Some}
use Rattle.std.specs.declared.ops.Bound.{Bound}
use Rattle.std.specs.declared.ops.Bound.TheVariants.{Included}
use Rattle.sled_nodes.specs.Order.{Key}
use Rattle.sled_nodes.specs.Among.{is_up_to}
use Rattle.sled_store.specs.In.{In}
use Rattle.sled_store.specs.State.{State, nodes_of}
use Rattle.sled_store.specs.Store.{Store, now, refuses_read_as}
use Rattle.sled_nodes.specs.declared.node.Node.{Node}
use Rattle.sled_store.specs.declared.page.View.{View}
use Rattle.sled_nodes.specs.declared.error.Error.{Error}
use Rattle.sled_nodes.specs.declared.error.Error.TheVariants.{ReportableBug, Io}
use Rattle.sled_nodes.specs.declared.texts.TheConstants.{WALK_PASSED_TURNS}
use Rattle.tree_laws.specs.Forest.{Tree, Forest, place, WellFormed}
use Rattle.tree_laws.specs.Paths.{CleanFrom, IsAhead, tree_pages}
use Rattle.tree_reads.specs.declared.TheConstants.{MOST_PAGES}

-- the page begins within the bound and does not end within it
pub record IsUnder (target : Bound Key) (n : Node) : Type 0 where
  pub begins : is_up_to target n.lo ≡ true
  pub ends : (n.hi ≡ []) ⊎ (is_up_to target n.hi ≡ false)

-- The page is live as it was read, and at every forest that shows the pages well formed it is the tree's leaf under the target.
-- Before the walk `from` pages were looked at and after it `looked`, the leaf one of them, and all these and those still
-- ahead of the leaf are no more than the tree's
pub record IsLeafFor (s : State) (root : ℕ) (target : Bound Key) (from : ℕ) (v : View) (looked : ℕ) : Type 0 where
  pub live : s.pages v.pid ≡ Some (record { version = v.version; node = v.node })
  pub more : from < looked
  pub is : (w : Forest) → WellFormed (nodes_of s) s.roots w → (t : Tree) → s.roots t ≡ Some root
      → IsUnder target v.node × (ahead : ℕ) × IsAhead w t 0 v.pid ahead × (ahead + looked ≤ tree_pages s t + from + 1)

-- .. however many pages a walk from the root or from a page below it looked at
pub record IsLeafOf (s : State) (root : ℕ) (target : Bound Key) (v : View) : Type 0 where
  pub looked : ℕ
  pub is : IsLeafFor s root target 0 v looked

-- The page is live as it was read, and at every forest it is on a level of the tree, with no more pages ahead of it than the tree has
pub record IsOfTree (s : State) (root : ℕ) (v : View) : Type 0 where
  pub live : s.pages v.pid ≡ Some (record { version = v.version; node = v.node })
  pub is : (w : Forest) → WellFormed (nodes_of s) s.roots w → (t : Tree) → s.roots t ≡ Some root
      → (height : ℕ) × (ahead : ℕ) × IsAhead w t height v.pid ahead × (ahead ≤ tree_pages s t)

-- a walk may begin below each page of the way that one before it has gone
abbrev pub IsWay : State → ℕ → List View → Type 0
IsWay s root way = (v : View) → In v way → IsOfTree s root v

-- at every forest the limit is at most this function of the number of the tree's pages
abbrev pub HasTooMany : (ℕ → ℕ) → State → ℕ → Type 0
HasTooMany of s root = (w : Forest) → WellFormed (nodes_of s) s.roots w → (t : Tree) → s.roots t ≡ Some root → MOST_PAGES ≤ of (tree_pages s t)

-- at every forest the page is on a level of the tree
abbrev pub IsTreePage : State → Tree → ℕ → Type 0
IsTreePage s t pid = (w : Forest) → WellFormed (nodes_of s) s.roots w → (height : ℕ) × In pid (w.chain (place t height))

abbrev pub refuses_walk_as : (ℕ → ℕ) → Store → ℕ → Error → Type 0
refuses_walk_as of s root (Io fault) = (pid : ℕ) × (s.is_readable pid ≡ false) × ((t : Tree) → (now s).roots t ≡ Some root → IsTreePage (now s) t pid)
refuses_walk_as of s root (ReportableBug text) = (text.now ≡ WALK_PASSED_TURNS.now) × HasTooMany of (now s) root
refuses_walk_as of s root e = refuses_read_as s e

-- Refused for want of memory, for a fault if a page of the tree is not readable, or for too many pages: from left to right no page
-- is looked at twice
pub record RefusesWalk (of : ℕ → ℕ) (s : Store) (root : ℕ) (e : Error) : Type 0 where
  pub is : refuses_walk_as of s root e

-- the tree's pages; and their square, since from right to left each leaf may be walked to from the root
abbrev pub once : ℕ → ℕ
once pages = pages

abbrev pub for_each : ℕ → ℕ
for_each pages = pages * pages

abbrev pub gives_up_as : State → ℕ → Key → ℕ → Error → Type 0
gives_up_as s root key from (ReportableBug text) = (first : Bool) (path : List ℕ) → CleanFrom (nodes_of s) (Included key) root first path → MOST_PAGES < from + length path
gives_up_as s root key from e = Unit {0}

-- a walk to a key over a clean path is refused only if the path has more pages than may still be looked at
pub record GivesUp (s : State) (root : ℕ) (target : Bound Key) (from : ℕ) (e : Error) : Type 0 where
  pub is : (key : Key) → target ≡ Included key → gives_up_as s root key from e
