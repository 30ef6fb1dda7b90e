-- What the changes of a repair do to what is left to repair, as laws.
use Rattle.std.specs.Prelude.{◌≡◌, ◌≢◌, ℕ, ◌+◌, ◌<◌, ◌≤◌, true, false, Some}
use Rattle.std.specs.declared.ops.Bound.{Bound}
use Rattle.sled_nodes.specs.Order.{Key}
use Rattle.sled_nodes.specs.Halves.{left_half, right_half, after_receiving}
use Rattle.sled_nodes.specs.Node.{count, after_link}
use Rattle.sled_nodes.specs.Posting.{with_pointer, takes_pointer}
use Rattle.sled_store.specs.State.{State, PageBecomes, RootBecomes, after}
use Rattle.sled_nodes.specs.declared.link.Link.TheVariants.{Set, Del, ParentMergeIntention, ParentMergeConfirm, ChildMergeCap}
use Rattle.sled_nodes.specs.declared.node.Node.{Node}
use Rattle.sled_store.specs.declared.page.View.{View}
use Rattle.tree_laws.specs.Forest.{Tree, Forest}
use Rattle.tree_laws.specs.Paths.{tree_pages}
use Rattle.tree_laws.specs.Snapshot.{Snapshot, HasForest, nodes_at, IsActing}
use Rattle.tree_laws.specs.Stages.{IsReplacing, IsPosting, IsSwapping, IsIntending, IsCapping, IsReceiving, IsConfirming}
use Rattle.tree_laws.specs.declared.flight.InstallLeft.{InstallLeft}
use Rattle.tree_laws.specs.declared.flight.Post.{Post}
use Rattle.tree_laws.specs.declared.flight.SwapRoot.{SwapRoot}
use Rattle.tree_laws.specs.declared.flight.Merge.{Merge}
use Rattle.tree_laws.specs.declared.flight.Cap.{Cap}
use Rattle.tree_laws.specs.declared.flight.Receive.{Receive}
use Rattle.tree_laws.specs.declared.flight.Confirm.{Confirm}
use Rattle.tree_progress.specs.Weights.{weight, child_weight}
use Rattle.tree_progress.specs.ToDo.{to_do}

-- less is left to repair in the tree t, by so much at least, and in every other tree as much as before; and t has one page more at most
pub record Lowers (old new : State) (t : Tree) (by : ℕ) : Type 0 where
  pub here : to_do new t + by ≤ to_do old t
  pub pages : tree_pages new t ≤ tree_pages old t + 1
  pub others : (u : Tree) → u ≢ t → to_do new u ≡ to_do old u

-- more is left to repair in the tree t by so much at most, and in every other tree as much as before
pub record Raises (old new : State) (t : Tree) (by : ℕ) : Type 0 where
  pub here : to_do new t ≤ to_do old t + by
  pub others : (u : Tree) → u ≢ t → to_do new u ≡ to_do old u

-- A call links its change of a leaf: a pair is put in, or a key is taken out
pub record Links (m : Snapshot) (t : Tree) (look : View) (node : Node) (key : Key) (version : ℕ) : Type 0 where
  pub sets : (value : Key) → Raises m.state (after (PageBecomes look.pid (Some (record { version = version; node = after_link (Set key value) node }))) m.state) t 1
  pub removes : Raises m.state (after (PageBecomes look.pid (Some (record { version = version; node = after_link (Del key) node }))) m.state) t 2

abbrev pub LinkRaises : Type 0
LinkRaises = (m : Snapshot) (w : Forest) (t : Tree) (number : ℕ) (aim : Bound Key) (look : View) (node : Node) (key : Key) (version : ℕ) → HasForest m w → m.numbers t ≡ Some number → IsActing m w t number aim look
    → m.state.pages look.pid ≡ Some (record { version = look.version; node = node }) → Links m t look node key version

-- A long page becomes its left half, and its right half, a new page, comes into its chain
abbrev pub InstallLowers : Type 0
InstallLowers = (m : Snapshot) (w : Forest) (t : Tree) (number : ℕ) (a : InstallLeft) (node : Node) (version : ℕ) → HasForest m w → m.numbers t ≡ Some number → IsReplacing m w t number a
    → m.state.pages a.page.pid ≡ Some (record { version = a.page.version; node = node }) → 16 < count a.page.node.content
    → a.left ≡ record (left_half a.page.node) { next = Some a.right } → nodes_at m a.right ≡ Some (right_half a.page.node)
    → Lowers m.state (after (PageBecomes a.page.pid (Some (record { version = version; node = a.left }))) m.state) t 3

-- An index that has no pointer at the key of a page gets it
abbrev pub PostLowers : Type 0
PostLowers = (m : Snapshot) (w : Forest) (t : Tree) (number : ℕ) (a : Post) (node : Node) (version : ℕ) → HasForest m w → m.numbers t ≡ Some number → IsPosting m w t number a
    → m.state.pages a.parent.pid ≡ Some (record { version = a.parent.version; node = node }) → takes_pointer a.at a.parent.node.content ≡ true
    → Lowers m.state (after (PageBecomes a.parent.pid (Some (record { version = version; node = record (a.parent.node) { content = with_pointer a.at a.pid a.parent.node.content } }))) m.state) t 3

-- An index over the root and the page beside it becomes the root
abbrev pub SwapLowers : Type 0
SwapLowers = (m : Snapshot) (w : Forest) (t : Tree) (number : ℕ) (a : SwapRoot) → HasForest m w → m.numbers t ≡ Some number → m.state.roots t ≡ Some a.old → IsSwapping m w t number a
    → Lowers m.state (after (RootBecomes t (Some a.new)) m.state) t 4

-- A page of n entries in the tree t, which weighed as others do, weighs as a merging child: less is left to repair if it is small
pub record Intends (old new : State) (t : Tree) (n : ℕ) : Type 0 where
  pub here : to_do new t + weight n ≤ to_do old t + child_weight false n
  pub small : n ≤ 3 → to_do new t + 1 ≤ to_do old t
  pub pages : tree_pages new t ≤ tree_pages old t + 1
  pub others : (u : Tree) → u ≢ t → to_do new u ≡ to_do old u

-- An index takes a child for its merging child
abbrev pub IntendLowers : Type 0
IntendLowers = (m : Snapshot) (w : Forest) (t : Tree) (number : ℕ) (a : Merge) (node child : Node) (version : ℕ) → HasForest m w → m.numbers t ≡ Some number → IsIntending m w t number a
    → m.state.pages a.parent.pid ≡ Some (record { version = a.parent.version; node = node }) → nodes_at m a.child ≡ Some child
    → Intends m.state (after (PageBecomes a.parent.pid (Some (record { version = version; node = after_link (ParentMergeIntention a.child) node }))) m.state) t (count child.content)

-- A merging child is capped
abbrev pub CapLowers : Type 0
CapLowers = (m : Snapshot) (w : Forest) (t : Tree) (number : ℕ) (a : Cap) (node : Node) (version : ℕ) → HasForest m w → m.numbers t ≡ Some number → IsCapping m w t number a
    → m.state.pages a.merge.child ≡ Some (record { version = a.version; node = node })
    → Lowers m.state (after (PageBecomes a.merge.child (Some (record { version = version; node = after_link ChildMergeCap node }))) m.state) t 1

-- The page before a capped child receives it
abbrev pub ReceiveLowers : Type 0
ReceiveLowers = (m : Snapshot) (w : Forest) (t : Tree) (number : ℕ) (a : Receive) (node : Node) (version : ℕ) → HasForest m w → m.numbers t ≡ Some number → IsReceiving m w t number a
    → m.state.pages a.left.pid ≡ Some (record { version = a.left.version; node = node })
    → Lowers m.state (after (PageBecomes a.left.pid (Some (record { version = version; node = after_receiving a.left.node a.node }))) m.state) t 1

-- The last change of a merge: the pointer to the received child goes
abbrev pub ConfirmLowers : Type 0
ConfirmLowers = (m : Snapshot) (w : Forest) (t : Tree) (number : ℕ) (a : Confirm) (node : Node) (version : ℕ) → HasForest m w → m.numbers t ≡ Some number → IsConfirming m w t number a
    → m.state.pages a.parent.pid ≡ Some (record { version = a.parent.version; node = node })
    → Lowers m.state (after (PageBecomes a.parent.pid (Some (record { version = version; node = after_link ParentMergeConfirm node }))) m.state) t 1
