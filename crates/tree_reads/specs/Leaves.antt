-- Searches along the leaves of a tree, and the leaves at which they are.
use Rattle.std.specs.Prelude.{◌≡◌, ◌≢◌, ℕ, ◌+◌, ◌*◌, ◌<◌, ◌≤◌, ◌^◌, false, List, [], ◌∷◌, ◌++◌, length, slice_get, Option, Some, None}
use Rattle.std.specs.declared.ops.Bound.{Bound}
use Rattle.sled_nodes.specs.Order.{Key, Below, UpTo}
use Rattle.sled_store.specs.In.{In}
use Rattle.sled_nodes.specs.Among.{is_up_to, is_from}
use Rattle.sled_nodes.specs.Node.{pairs}
use Rattle.sled_store.specs.State.{State, nodes_of}
use Rattle.sled_store.specs.declared.page.Page.{Page}
use Rattle.sled_store.specs.declared.page.View.{View}
use Rattle.tree_laws.specs.Forest.{Tree, Forest, place, WellFormed, contents}
use Rattle.tree_laws.specs.Paths.{IsAhead, tree_pages}

-- at every forest that shows the pages well formed it is so of the contents of the tree with this root
pub record OfContents (s : State) (root : ℕ) (claim : List (Key × Key) → Type 0) : Type 0 where
  pub is : (w : Forest) → WellFormed (nodes_of s) s.roots w → (t : Tree) → s.roots t ≡ Some root → claim (contents (nodes_of s) w t)

-- the page is live as it was read, and page numbers fit 64 bits
pub record IsRead (s : State) (v : View) : Type 0 where
  pub live : s.pages v.pid ≡ Some (record { version = v.version; node = v.node })
  pub below : (p : ℕ) (g : Page) → s.pages p ≡ Some g → p < 2 ^ 64

-- A search to the right is at a leaf: all pairs before the leaf are without the lower bound, and the pages looked at so far, this
-- one among them, and those ahead are no more than the tree's
pub record Seeks (s : State) (root : ℕ) (lo : Bound Key) (v : View) (looked : ℕ) : Type 0 where
  pub read : IsRead s v
  pub is : (w : Forest) → WellFormed (nodes_of s) s.roots w → (t : Tree) → s.roots t ≡ Some root
      → (ahead : ℕ) × IsAhead w t 0 v.pid ahead × (ahead + looked ≤ tree_pages s t + 1) × ((e : Key × Key) → In e (contents (nodes_of s) w t) → Below e.0 v.node.lo → is_from lo e.0 ≡ false)

-- A search to the left is at a leaf. All pairs behind the leaf are without the upper bound; the pages looked at so far, and a walk to each
-- leaf before this one, are no more than a walk to each page
pub record SeeksBack (s : State) (root : ℕ) (hi : Bound Key) (v : View) (looked : ℕ) : Type 0 where
  pub read : IsRead s v
  pub is : (w : Forest) → WellFormed (nodes_of s) s.roots w → (t : Tree) → s.roots t ≡ Some root
      → (before : List ℕ) × (behind : List ℕ) × (w.chain (place t 0) ≡ before ++ v.pid ∷ behind) × (looked + length before * tree_pages s t ≤ tree_pages s t * tree_pages s t)
      × ((e : Key × Key) → In e (contents (nodes_of s) w t) → v.node.hi ≢ [] → UpTo v.node.hi e.0 → is_up_to hi e.0 ≡ false)

-- the pair at a place of the leaf at hand, if there is one
abbrev pub entry_at : Option View → ℕ → Option (Key × Key)
entry_at None i = None
entry_at (Some v) i = slice_get (pairs v.node.content) i

-- the leaf at hand, if there is one
abbrev pub SeeksAt : State → ℕ → Bound Key → Option View → Type 0
SeeksAt s root lo None = Unit {0}
SeeksAt s root lo (Some v) = Seeks s root lo v 0

abbrev pub SeeksBackAt : State → ℕ → Bound Key → Option View → Type 0
SeeksBackAt s root hi None = Unit {0}
SeeksBackAt s root hi (Some v) = SeeksBack s root hi v 0
