-- What a call in flight knows of the store, by its stage.
use Rattle.std.specs.Prelude.{◌≡◌, ◌≢◌, ℕ, suc, ◌≤◌, Bool, true, false, List, ◌⊎◌, [], ◌∷◌, Option, Some, None}
use Rattle.std.specs.declared.ops.Bound.{Bound}
use Rattle.sled_nodes.specs.Order.{Key, Below}
use Rattle.sled_store.specs.In.{In}
use Rattle.sled_nodes.specs.Among.{IsBefore}
use Rattle.sled_nodes.specs.Node.{pointers, count, Covers}
use Rattle.sled_nodes.specs.declared.node.Node.{Node}
use Rattle.sled_nodes.specs.declared.node.Data.TheVariants.{Index}
use Rattle.sled_store.specs.declared.page.View.{View}
use Rattle.tree_laws.specs.Forest.{Tree, Forest, Place, place, later}
use Rattle.tree_laws.specs.Action.{IsSplit}
use Rattle.tree_laws.specs.Snapshot.{Snapshot, nodes_at, IsOrphan, IsReadAs, StoodInChain, IsOpen, IsAtVersion, HasRoomForOne, SeenOpen, LiesUnder, IsActing}
use Rattle.tree_laws.specs.declared.flight.Reached.{Reached}
use Rattle.tree_laws.specs.declared.flight.Reached.TheVariants as reached
use Rattle.tree_laws.specs.declared.flight.Walk.{Walk}
use Rattle.tree_laws.specs.declared.flight.Posting.{Posting}
use Rattle.tree_laws.specs.declared.flight.Posting.TheVariants as posting
use Rattle.tree_laws.specs.declared.flight.Split.{Split}
use Rattle.tree_laws.specs.declared.flight.InstallLeft.{InstallLeft}
use Rattle.tree_laws.specs.declared.flight.Post.{Post}
use Rattle.tree_laws.specs.declared.flight.Hoist.{Hoist}
use Rattle.tree_laws.specs.declared.flight.SwapRoot.{SwapRoot}
use Rattle.tree_laws.specs.declared.flight.Orphan.{Orphan}
use Rattle.tree_laws.specs.declared.flight.Merge.{Merge}
use Rattle.tree_laws.specs.declared.flight.Cap.{Cap}
use Rattle.tree_laws.specs.declared.flight.Seek.{Seek}
use Rattle.tree_laws.specs.declared.flight.Receive.{Receive}
use Rattle.tree_laws.specs.declared.flight.Confirm.{Confirm}
use Rattle.tree_laws.specs.declared.flight.Stage.{Stage}
use Rattle.tree_laws.specs.declared.flight.Stage.TheVariants as stage

-- an open index above the height h, to which the tree's pages of that height may get pointers
pub record IsParent (m : Snapshot) (w : Forest) (t : Tree) (number h : ℕ) (look : View) : Type 0 where
  pub seen : SeenOpen m w (place t (suc h)) number look
  pub es : List (Key × ℕ)
  pub content : look.node.content ≡ Index es

-- what begins at lo on the level below a parent is within its bounds. The parent is under the aim, and takes one pointer more
pub record IsBelowParent (m : Snapshot) (w : Forest) (t : Tree) (number h : ℕ) (aim : Bound Key) (parent : View) (lo : Key) : Type 0 where
  pub above : IsParent m w t number h parent
  pub under : LiesUnder aim parent.node
  pub within : Covers parent.node lo
  pub fits : HasRoomForOne parent

-- the index that a page was reached through, if it is not the root
abbrev pub parent_of : Reached → Option View
parent_of reached.Root = None
parent_of (reached.FirstPointer parent) = Some parent
parent_of (reached.LaterPointer parent) = Some parent
parent_of (reached.Next parent) = Some parent

-- by a pointer, and whether that is the first
abbrev pub by_pointer : View → Bool → Reached
by_pointer parent true = reached.FirstPointer parent
by_pointer parent false = reached.LaterPointer parent

-- how the page p was reached, which begins at lo: the root begins at the empty key, and any other is below its parent. One that was
-- reached by a later pointer has it, and one that was reached by `next` begins behind the parent
abbrev pub IsReached : Snapshot → Forest → Tree → ℕ → ℕ → Bound Key → Reached → Key → ℕ → Type 0
IsReached m w t number h aim reached.Root lo p = lo ≡ []
IsReached m w t number h aim (reached.FirstPointer parent) lo p = IsBelowParent m w t number h aim parent lo
IsReached m w t number h aim (reached.LaterPointer parent) lo p = IsBelowParent m w t number h aim parent lo × In (lo, p) (later (pointers parent.node.content))
IsReached m w t number h aim (reached.Next parent) lo p = IsBelowParent m w t number h aim parent lo × Below parent.node.lo lo

-- the walk: its cursor was on a level, if it was reached
pub record IsWalking (m : Snapshot) (w : Forest) (t : Tree) (number : ℕ) (aim : Bound Key) (a : Walk) : Type 0 where
  pub height : ℕ
  pub lo : Key
  pub stood : StoodInChain m w (place t height) number lo a.cursor
  pub is_reached : IsReached m w t number height aim a.reached lo a.cursor

-- where the right half of a split is posted: at a parent, which takes one pointer more and below which the page is, or at the root, if the
-- page is the first of its level. A split that serves a merge is posted nowhere
abbrev pub IsPlace : Snapshot → Forest → Tree → ℕ → ℕ → View → Posting → Type 0
IsPlace m w t number h page (posting.Parent parent) = IsParent m w t number h parent × Covers parent.node page.node.lo × HasRoomForOne parent
IsPlace m w t number h page posting.Root = page.node.lo ≡ []
IsPlace m w t number h page posting.Nowhere = Unit {0}

-- an open page is to be split
pub record IsSplitting (m : Snapshot) (w : Forest) (t : Tree) (number : ℕ) (a : Split) : Type 0 where
  pub height : ℕ
  pub seen : SeenOpen m w (place t height) number a.page
  pub posted : IsPlace m w t number height a.page a.posting

-- a page that is no part of any tree, live at this version
pub record IsOwn (m : Snapshot) (w : Forest) (pid version : ℕ) (n : Node) : Type 0 where
  pub live : m.state.pages pid ≡ Some (record { version = version; node = n })
  pub stray : IsOrphan w pid

-- the right half is a new page, and the page is to become the left half
pub record IsReplacing (m : Snapshot) (w : Forest) (t : Tree) (number : ℕ) (a : InstallLeft) : Type 0 where
  pub height : ℕ
  pub seen : SeenOpen m w (place t height) number a.page
  pub posted : IsPlace m w t number height a.page a.posting
  pub right : Node
  pub own : IsOwn m w a.right a.version right
  pub split : IsSplit height a.page.node a.left right a.right
  pub begins : right.lo ≡ a.at

-- q is on the level below the parent, begins there within the parent's bounds, and is not merging
pub record IsUnder (m : Snapshot) (w : Forest) (x : Place) (parent : View) (at : Key) (q : ℕ) : Type 0 where
  pub covers : Covers parent.node at
  pub node : Node
  pub chained : In q (w.chain x)
  pub live : nodes_at m q ≡ Some node
  pub lo : node.lo ≡ at
  pub not_merging : node.merging ≡ false

-- the parent takes one pointer more and is to get one to a page: while the parent has its version, the page is under it
pub record IsPosting (m : Snapshot) (w : Forest) (t : Tree) (number : ℕ) (a : Post) : Type 0 where
  pub height : ℕ
  pub above : IsParent m w t number height a.parent
  pub fits : HasRoomForOne a.parent
  pub beyond : Below a.parent.node.lo a.at
  pub under : m.numbers t ≡ Some number → IsAtVersion m a.parent → IsUnder m w (place t height) a.parent a.at a.pid

-- a new root is to come over two pages: while the left one is the root, the right one is beside it
pub record IsHoisting (m : Snapshot) (w : Forest) (t : Tree) (number : ℕ) (a : Hoist) : Type 0 where
  pub height : ℕ
  pub stood : StoodInChain m w (place t height) number [] a.left
  pub beyond : Below [] a.at
  pub beside : m.numbers t ≡ Some number → m.state.roots t ≡ Some a.left → (d : Node) × In a.right (w.chain (place t height)) × (nodes_at m a.right ≡ Some d) × (d.lo ≡ a.at)

-- an index with empty bounds over two pages
pub record IsOver (n : Node) (left : ℕ) (at : Key) (right : ℕ) : Type 0 where
  pub lo : n.lo ≡ []
  pub hi : n.hi ≡ []
  pub next : n.next ≡ None
  pub merging : n.merging ≡ false
  pub merging_child : n.merging_child ≡ None
  pub content : n.content ≡ Index (([], left) ∷ (at, right) ∷ [])

-- the new root is a new page, and is to become the root
pub record IsSwapping (m : Snapshot) (w : Forest) (t : Tree) (number : ℕ) (a : SwapRoot) : Type 0 where
  pub at : Key
  pub right : ℕ
  pub hoisting : IsHoisting m w t number (record { left = a.old; at = at; right = right })
  pub root : Node
  pub over : IsOver root a.old at right
  pub own : IsOwn m w a.new a.version root

-- a page that is no part of any tree is to be freed
pub record IsFreeing (m : Snapshot) (w : Forest) (a : Orphan) : Type 0 where
  pub node : Node
  pub own : IsOwn m w a.pid a.version node

-- The stages of a merge of a page into the one before it

-- The parent is to take a later child for its merging child: while the parent has its version, the child is under it, and has at
-- most 17 entries. `before` is the page whose pointer is before the child's
pub record IsIntending (m : Snapshot) (w : Forest) (t : Tree) (number : ℕ) (a : Merge) : Type 0 where
  pub height : ℕ
  pub above : IsParent m w t number height a.parent
  pub key : Key
  pub pointer : In (key, a.child) (later (pointers a.parent.node.content))
  pub under : m.numbers t ≡ Some number → IsAtVersion m a.parent → IsUnder m w (place t height) a.parent key a.child
  pub small : m.numbers t ≡ Some number → IsAtVersion m a.parent → (d : Node) → nodes_at m a.child ≡ Some d → count d.content ≤ 17
  pub before : IsBefore a.child (pointers a.parent.node.content) a.before

-- the page c was capped as d at this version: it is gone, or this still
pub record IsFrozen (m : Snapshot) (c version : ℕ) (d : Node) : Type 0 where
  pub page : m.pids c ≡ true
  pub capped : d.merging ≡ true
  pub now : (m.state.pages c ≡ None) ⊎ (m.state.pages c ≡ Some (record { version = version; node = d }))

-- a chain page of the level above has c for its merging child
pub record IsChild (m : Snapshot) (w : Forest) (t : Tree) (h c : ℕ) : Type 0 where
  pub parent : ℕ
  pub node : Node
  pub chained : In parent (w.chain (place t (suc h)))
  pub live : nodes_at m parent ≡ Some node
  pub child : node.merging_child ≡ Some c

-- a page above took c for its merging child: the tree's number is not the name's now, or c is gone, or merging, or a page
-- above has it still
pub record IsWanted (m : Snapshot) (w : Forest) (t : Tree) (number h c : ℕ) : Type 0 where
  pub page : m.pids c ≡ true
  pub tree : m.given number ≡ true
  pub now : (m.numbers t ≢ Some number) ⊎ ((nodes_at m c ≡ None) ⊎ (((d : Node) × (nodes_at m c ≡ Some d) × (d.merging ≡ true)) ⊎ IsChild m w t h c))

-- an index as it was read, with the merging child c
pub record IsMerger (m : Snapshot) (w : Forest) (t : Tree) (number h c : ℕ) (look : View) : Type 0 where
  pub view : IsReadAs m look.pid look.version look.node
  pub stood : StoodInChain m w (place t (suc h)) number look.node.lo look.pid
  pub not_merging : look.node.merging ≡ false
  pub child : look.node.merging_child ≡ Some c
  pub es : List (Key × ℕ)
  pub content : look.node.content ≡ Index es

-- a merge as it begins: the index with its merging child, and the page whose pointer is before the child's
pub record IsMerging (m : Snapshot) (w : Forest) (t : Tree) (number height : ℕ) (a : Merge) : Type 0 where
  pub merger : IsMerger m w t number height a.child a.parent
  pub wanted : IsWanted m w t number height a.child
  pub lo : Key
  pub low : Key
  pub c_stood : StoodInChain m w (place t height) number lo a.child
  pub left_stood : StoodInChain m w (place t height) number low a.before
  pub below : Below low lo

-- the merging child is to be read
pub record IsReadingChild (m : Snapshot) (w : Forest) (t : Tree) (number : ℕ) (a : Merge) : Type 0 where
  pub height : ℕ
  pub merging : IsMerging m w t number height a

-- the merging child, as it was read
abbrev pub child_of : Cap → View
child_of a = record { pid = a.merge.child; version = a.version; node = a.node }

-- the child is open and is to be capped: while it has its version, a page above has it for its merging child
pub record IsCapping (m : Snapshot) (w : Forest) (t : Tree) (number : ℕ) (a : Cap) : Type 0 where
  pub height : ℕ
  pub merging : IsMerging m w t number height a.merge
  pub view : IsReadAs m a.merge.child a.version a.node
  pub tree : m.given number ≡ true
  pub is_open : IsOpen a.node
  pub wanted : m.numbers t ≡ Some number → IsAtVersion m (child_of a) → IsChild m w t height a.merge.child

-- the search for the page that the child follows: its cursor was left of the child
pub record IsSeeking (m : Snapshot) (w : Forest) (t : Tree) (number : ℕ) (a : Seek) : Type 0 where
  pub height : ℕ
  pub merging : IsMerging m w t number height a.merge
  pub frozen : IsFrozen m a.merge.child a.version a.node
  pub lo : Key
  pub stood : StoodInChain m w (place t height) number lo a.cursor
  pub before : Below lo a.node.lo

-- the page that the child follows is to receive it, and takes one entry more
pub record IsReceiving (m : Snapshot) (w : Forest) (t : Tree) (number : ℕ) (a : Receive) : Type 0 where
  pub height : ℕ
  pub merging : IsMerging m w t number height a.merge
  pub seen : SeenOpen m w (place t height) number a.left
  pub next : a.left.node.next ≡ Some a.merge.child
  pub before : Below a.left.node.lo a.node.lo
  pub frozen : IsFrozen m a.merge.child a.version a.node
  pub fits : HasRoomForOne a.left

-- the capped page c was received: it is gone, or merging and out of the chain of its place for good
pub record IsOut (m : Snapshot) (w : Forest) (x : Place) (c version : ℕ) (d : Node) : Type 0 where
  pub frozen : IsFrozen m c version d
  pub out : (nodes_at m c ≡ None) ⊎ ¬ (In c (w.chain x))

-- the pointer to the child, which was received, is to go
pub record IsConfirming (m : Snapshot) (w : Forest) (t : Tree) (number : ℕ) (a : Confirm) : Type 0 where
  pub height : ℕ
  pub node : Node
  pub merger : IsMerger m w t number height a.child a.parent
  pub received : IsOut m w (place t height) a.child a.version node

-- what a call that aims at this knows at its stage
abbrev pub IsStage : Snapshot → Forest → Tree → ℕ → Bound Key → Stage → Type 0
IsStage m w t number aim stage.Root = Unit {0}
IsStage m w t number aim (stage.Walk a) = IsWalking m w t number aim a
IsStage m w t number aim (stage.Act v) = IsActing m w t number aim v × HasRoomForOne v
IsStage m w t number aim (stage.Give a) = IsActing m w t number aim a.leaf
IsStage m w t number aim (stage.Split a) = IsSplitting m w t number a
IsStage m w t number aim (stage.InstallLeft a) = IsReplacing m w t number a
IsStage m w t number aim (stage.Post a) = IsPosting m w t number a
IsStage m w t number aim (stage.Hoist a) = IsHoisting m w t number a
IsStage m w t number aim (stage.SwapRoot a) = IsSwapping m w t number a
IsStage m w t number aim (stage.Free a) = IsFreeing m w a
IsStage m w t number aim (stage.Intend a) = IsIntending m w t number a
IsStage m w t number aim (stage.Child a) = IsReadingChild m w t number a
IsStage m w t number aim (stage.Cap a) = IsCapping m w t number a
IsStage m w t number aim (stage.Seek a) = IsSeeking m w t number a
IsStage m w t number aim (stage.Receive a) = IsReceiving m w t number a
IsStage m w t number aim (stage.Confirm a) = IsConfirming m w t number a

-- the pages that are a call's own at its stage: it made them, and no tree has them yet, or any more
abbrev pub owned : Stage → List ℕ
owned (stage.InstallLeft a) = a.right ∷ []
owned (stage.SwapRoot a) = a.new ∷ []
owned (stage.Free a) = a.pid ∷ []
owned other = []
