-- A call that sees pages as they are now: what it knows at its stage, and how many steps it has at most until it changes a page.
use Rattle.std.proofs.Common.{◌≡◌, ◌≢◌, ℕ, suc, ◌+◌, ◌*◌, ◌<◌, ◌≤◌, true, false, Some}
use Rattle.std.specs.declared.ops.Bound.{Bound}
use Rattle.sled_nodes.specs.Among.{is_up_to, IsBefore}
use Rattle.sled_nodes.specs.Halves.{right_half}
use Rattle.sled_nodes.specs.Node.{pointers, count}
use Rattle.sled_nodes.specs.Order.{Key, Below, UpTo}
use Rattle.sled_nodes.specs.Posting.{takes_pointer}
use Rattle.sled_nodes.specs.declared.node.Node.{Node}
use Rattle.sled_store.specs.In.{In}
use Rattle.sled_store.specs.State.{State}
use Rattle.sled_store.specs.declared.page.View.{View}
use Rattle.tree_laws.specs.Forest.{Tree, Forest, Place, place, later}
use Rattle.tree_laws.specs.Paths.{tree_pages, pages_below, IsAhead}
use Rattle.tree_laws.specs.Snapshot.{Snapshot, nodes_at, IsOpen, LiesUnder}
use Rattle.tree_laws.specs.Stages.{child_of}
use Rattle.tree_laws.specs.declared.flight.Reached.{Reached}
use Rattle.tree_laws.specs.declared.flight.Reached.TheVariants as reached
use Rattle.tree_laws.specs.declared.flight.Posting.{Posting}
use Rattle.tree_laws.specs.declared.flight.Posting.TheVariants as posting
use Rattle.tree_laws.specs.declared.flight.Merge.{Merge}
use Rattle.tree_laws.specs.declared.flight.Cap.{Cap}
use Rattle.tree_laws.specs.declared.flight.Seek.{Seek}
use Rattle.tree_laws.specs.declared.flight.Stage.{Stage}
use Rattle.tree_laws.specs.declared.flight.Stage.TheVariants as stage
use Rattle.sled_tree.specs.Course.{Course}
use Rattle.sled_tree.specs.Passing.{IsUnchanged}
use Rattle.sled_tree.specs.declared.flight.Sequel.{Sequel}
use Rattle.sled_tree.specs.declared.flight.Sequel.TheVariants.{Go, Decided, Refused}

-- an index above the height h, as it stands now
pub record IsAbove (m : Snapshot) (w : Forest) (t : Tree) (h : ℕ) (parent : View) : Type 0 where
  pub now : IsUnchanged m.state parent
  pub chained : In parent.pid (w.chain (place t (suc h)))

-- .. and open. It lies under the aim, and its pointers within the aim are at or below lo
pub record IsOverNow (m : Snapshot) (w : Forest) (t : Tree) (h : ℕ) (aim : Bound Key) (parent : View) (lo : Key) : Type 0 where
  pub above : IsAbove m w t h parent
  pub is_open : IsOpen parent.node
  pub under : LiesUnder aim parent.node
  pub low : UpTo parent.node.lo lo
  pub last : (k : Key) (c : ℕ) → In (k, c) (pointers parent.node.content) → is_up_to aim k ≡ true → UpTo k lo

abbrev pub fresh_reached : Snapshot → Forest → Tree → ℕ → Bound Key → Reached → Key → ℕ → Type 0
fresh_reached m w t h aim reached.Root lo p = m.state.roots t ≡ Some p
fresh_reached m w t h aim (reached.FirstPointer parent) lo p = IsOverNow m w t h aim parent lo
fresh_reached m w t h aim (reached.LaterPointer parent) lo p = IsOverNow m w t h aim parent lo × In (lo, p) (later (pointers parent.node.content))
fresh_reached m w t h aim (reached.Next parent) lo p = IsOverNow m w t h aim parent lo × ((k : Key) (c : ℕ) → In (k, c) (pointers parent.node.content) → is_up_to aim k ≡ true → Below k lo)

-- a page of a level that is live and does not merge
pub record IsAwake (m : Snapshot) (w : Forest) (x : Place) (p : ℕ) (n : Node) : Type 0 where
  pub chained : In p (w.chain x)
  pub live : nodes_at m p ≡ Some n
  pub awake : n.merging ≡ false

-- the page that a walk reads, and the steps that it has at most
pub record IsComing (m : Snapshot) (w : Forest) (t : Tree) (aim : Bound Key) (n p : ℕ) (node : Node) (by : Reached) : Type 0 where
  pub height : ℕ
  pub here : IsAwake m w (place t height) p node
  pub begins : is_up_to aim node.lo ≡ true
  pub is_reached : fresh_reached m w t height aim by node.lo p
  pub ahead : ℕ
  pub is_ahead : IsAhead w t height p ahead
  pub few : 2 * ahead + 2 ≤ n

-- where a pointer to the right half is to go there is none at its key
abbrev pub fresh_posting : State → Tree → ℕ → Key → Posting → Type 0
fresh_posting s t p at (posting.Parent parent) = IsUnchanged s parent × (parent.pid ≢ p) × (takes_pointer at parent.node.content ≡ true)
fresh_posting s t p at posting.Root = s.roots t ≡ Some p
fresh_posting s t p at posting.Nowhere = Unit {0}

-- an index with its merging child, as it stands now
pub record IsMergingNow (m : Snapshot) (w : Forest) (t : Tree) (h : ℕ) (a : Merge) : Type 0 where
  pub above : IsAbove m w t h a.parent
  pub child : a.parent.node.merging_child ≡ Some a.child
  pub before : IsBefore a.child (pointers a.parent.node.content) a.before

pub record IsIntendingNow (m : Snapshot) (w : Forest) (t : Tree) (a : Merge) : Type 0 where
  pub height : ℕ
  pub above : IsAbove m w t height a.parent
  pub small : (d : Node) → nodes_at m a.child ≡ Some d → count d.content ≤ 3
  pub before : IsBefore a.child (pointers a.parent.node.content) a.before

pub record IsReadingNow (m : Snapshot) (w : Forest) (t : Tree) (n : ℕ) (a : Merge) : Type 0 where
  pub height : ℕ
  pub merging : IsMergingNow m w t height a
  pub few : 2 * pages_below w t (suc height) + 3 ≤ n

pub record IsCappingNow (m : Snapshot) (w : Forest) (t : Tree) (a : Cap) : Type 0 where
  pub height : ℕ
  pub merging : IsMergingNow m w t height a.merge
  pub child : IsUnchanged m.state (child_of a)

-- the search for the page before the child stands below the index, before the child
pub record IsSeekingNow (m : Snapshot) (w : Forest) (t : Tree) (n : ℕ) (a : Seek) (node : Node) : Type 0 where
  pub height : ℕ
  pub merging : IsMergingNow m w t height a.merge
  pub child : nodes_at m a.merge.child ≡ Some a.node
  pub here : IsAwake m w (place t height) a.cursor node
  pub low : UpTo a.merge.parent.node.lo node.lo
  pub before : Below node.lo a.node.lo
  pub ahead : ℕ
  pub is_ahead : IsAhead w t height a.cursor ahead
  pub few : 2 * ahead + 2 ≤ n

-- what a call knows of pages as they are now, and that it changes one, or ends, by n steps more
abbrev pub IsFresh : Snapshot → Forest → Course → ℕ → Stage → Type 0
IsFresh m w j n stage.Root = 2 * tree_pages m.state j.tree.name + 2 ≤ n
IsFresh m w j n (stage.Walk a) = (node : Node) × IsComing m w j.tree.name j.aim n a.cursor node a.reached
IsFresh m w j n (stage.Act v) = IsUnchanged m.state v
IsFresh m w j n (stage.Give a) = IsUnchanged m.state a.leaf
IsFresh m w j n (stage.Split a) = (2 ≤ n) × IsUnchanged m.state a.page × (16 < count a.page.node.content) × IsOpen a.page.node × fresh_posting m.state j.tree.name a.page.pid (right_half a.page.node).lo a.posting
IsFresh m w j n (stage.InstallLeft a) = IsUnchanged m.state a.page × fresh_posting m.state j.tree.name a.page.pid a.at a.posting
IsFresh m w j n (stage.Post a) = IsUnchanged m.state a.parent × (takes_pointer a.at a.parent.node.content ≡ true)
IsFresh m w j n (stage.Hoist a) = (2 ≤ n) × (m.state.roots j.tree.name ≡ Some a.left)
IsFresh m w j n (stage.SwapRoot a) = m.state.roots j.tree.name ≡ Some a.old
IsFresh m w j n (stage.Free a) = 2 * tree_pages m.state j.tree.name + 3 ≤ n
IsFresh m w j n (stage.Intend a) = IsIntendingNow m w j.tree.name a
IsFresh m w j n (stage.Child a) = IsReadingNow m w j.tree.name n a
IsFresh m w j n (stage.Cap a) = IsCappingNow m w j.tree.name a
IsFresh m w j n (stage.Seek a) = (node : Node) × IsSeekingNow m w j.tree.name n a node
IsFresh m w j n (stage.Receive a) = IsUnchanged m.state a.left × IsUnchanged m.state a.merge.parent × (a.left.pid ≢ a.merge.parent.pid)
IsFresh m w j n (stage.Confirm a) = IsUnchanged m.state a.parent

-- the call ends, or goes on from such a stage, with fewer steps than n
abbrev pub toward : Snapshot → Forest → Course → ℕ → Sequel → Type 0
toward m w j n (Go b) = (k : ℕ) × (k < n) × IsFresh m w j k b
toward m w j n (Decided reply) = Unit {0}
toward m w j n (Refused e) = Unit {0}
