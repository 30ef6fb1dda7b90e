-- Of Snapshot, for proofs. The store at one moment, what every action of a call keeps for the others, and what a call in flight knows.
use Rattle.std.specs.Prelude.{◌≡◌, ◌≢◌, ℕ, suc, ◌≤◌, ◌⊎◌, true, false, List, ◌++◌, Option, Some, None}
use Rattle.sled_store.specs.In.{In}
use Rattle.sled_nodes.specs.Node.{count}
use Rattle.sled_store.specs.State.{Nodes}
use Rattle.sled_nodes.specs.declared.node.Node.{Node}
use Rattle.sled_store.specs.declared.page.Page.{Page}
use Rattle.tree_laws.specs.Forest.{Tree, Forest, Place, place, IsSized}
use Rattle.tree_laws.specs.Snapshot.{Snapshot, nodes_at, HasForest, IsOrphan, IsInChain}

-- What an action keeps of the nodes and of the forest. `mine` are the acting call's own pages, which have no home and which
-- it may bring into a tree or free; `lost` is the tree that it drops, if it drops one
pub record KeepsNodes (mine : List ℕ) (lost : Option Tree) (old new : Nodes) (w v : Forest) : Type 0 where
  -- a page of a chain stays live, and is there or is merging
  pub stood : (x : Place) (p : ℕ) (n : Node) → lost ≢ Some x.tree → In p (w.chain x) → old p ≡ Some n → IsInChain new v x n.lo p
  -- a merging page does not change any more; it is only freed
  pub capped : (p : ℕ) (n : Node) → old p ≡ Some n → n.merging ≡ true → (new p ≡ Some n) ⊎ (new p ≡ None)
  -- a page without a home stays as it is and without a home, but for the acting call's own
  pub stray : (p : ℕ) → IsOrphan w p → ¬ (In p mine) → (new p ≡ old p) × IsOrphan v p
  -- a merging page that left its chain never comes back
  pub left : (x : Place) (p : ℕ) (n : Node) → old p ≡ Some n → n.merging ≡ true → ¬ (In p (w.chain x)) → ¬ (In p (v.chain x))
  -- a page begins to merge only as the merging child of a page above it
  pub wakes : (x : Place) (p : ℕ) (n m : Node) → In p (w.chain x) → old p ≡ Some n → n.merging ≡ false → new p ≡ Some m → m.merging ≡ true
      → (q : ℕ) × (d : Node) × In q (w.chain (place x.tree (suc x.height))) × (old q ≡ Some d) × (d.merging_child ≡ Some p)
  -- a page that has a merging child keeps it until the child was received
  pub child : (x : Place) (p c : ℕ) (n : Node) → lost ≢ Some x.tree → In p (w.chain x) → old p ≡ Some n → n.merging_child ≡ Some c
      → (In p (v.chain x) × ((m : Node) × (new p ≡ Some m) × (m.merging_child ≡ Some c))) ⊎ ((d : Node) × (old c ≡ Some d) × (d.merging ≡ true) × ((y : Place) → ¬ (In c (w.chain y))))

-- what every action of a call gives to every other call in flight
pub record Guarantee (mine : List ℕ) (lost : Option Tree) (old : Snapshot) (w : Forest) (new : Snapshot) (v : Forest) : Type 0 where
  -- what was given stays given
  pub pids : (p : ℕ) → old.pids p ≡ true → new.pids p ≡ true
  pub versions : (p : ℕ) → old.versions p ≡ true → new.versions p ≡ true
  pub given : (n : ℕ) → old.given n ≡ true → new.given n ≡ true
  -- a page that is gone stays gone, and a page that changes has a version never given before
  pub gone : (p : ℕ) → old.pids p ≡ true → old.state.pages p ≡ None → new.state.pages p ≡ None
  pub fresh : (p : ℕ) (g : Page) → new.state.pages p ≡ Some g → (old.state.pages p ≡ Some g) ⊎ (old.versions g.version ≡ false)
  -- a tree keeps its number until it is dropped, and a number that was given is no other tree's later
  pub lasts : (t : Tree) (n : ℕ) → lost ≢ Some t → old.numbers t ≡ Some n → new.numbers t ≡ Some n
  pub dropped : (t : Tree) (n : ℕ) → old.given n ≡ true → old.numbers t ≢ Some n → new.numbers t ≢ Some n
  pub loses : (t : Tree) → lost ≡ Some t → new.numbers t ≡ None
  -- a new root was a page without a home
  pub rooted : (t : Tree) (r : ℕ) → new.state.roots t ≡ Some r → (old.state.roots t ≡ Some r) ⊎ (IsOrphan w r × ((n : Node) × (nodes_at old r ≡ Some n) × (n.merging ≡ false)))
  -- the pages that are another call's own are kept whole, versions included
  pub own : (p : ℕ) → IsOrphan w p → ¬ (In p mine) → new.state.pages p ≡ old.state.pages p
  -- and so is a merging page, until it is freed
  pub frozen : (p : ℕ) (g : Page) → old.state.pages p ≡ Some g → g.node.merging ≡ true → (new.state.pages p ≡ Some g) ⊎ (new.state.pages p ≡ None)
  pub keeps : KeepsNodes mine lost (nodes_at old) (nodes_at new) w v

-- a page grows past 17 entries only as it receives the page behind it
pub record GrowsByReceiving (old new : Nodes) (w : Forest) : Type 0 where
  pub grows : (x : Place) (p : ℕ) (n m : Node) → In p (w.chain x) → old p ≡ Some n → new p ≡ Some m
      → (count m.content ≤ count n.content) ⊎ ((count m.content ≤ 17) ⊎ ((c : ℕ) × (d : Node) × (n.next ≡ Some c) × (old c ≡ Some d) × (d.merging ≡ true)))

-- An action of a call that owned the pages `mine` before it and owns `own` after it
pub record KeepsForest (mine own : List ℕ) (old : Snapshot) (w : Forest) (new : Snapshot) (v : Forest) : Type 0 where
  pub is : HasForest new v
  pub goes : Guarantee (mine ++ own) None old w new v
  -- what it owns now was its own, or is new, or had a home until then
  pub fresh : (q : ℕ) → In q own → In q mine ⊎ ((old.pids q ≡ false) ⊎ ((x : Place) × (w.home q ≡ Some x)))
  -- no page gets too many entries
  pub sized : IsSized (nodes_at old) w → IsSized (nodes_at new) v
  pub grows : GrowsByReceiving (nodes_at old) (nodes_at new) w
