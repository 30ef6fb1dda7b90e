-- The laws of the stages of a call in flight, as types.
use Rattle.std.specs.Prelude.{◌≡◌, ◌≢◌, ◌⊎◌, ℕ, suc, ◌<◌, ◌≤◌, ◌^◌, Bool, true, false, List, [], Option, Some, None}
use Rattle.std.specs.FinMap.Entries.{find}
use Rattle.sled_nodes.specs.Order.{Key, key_cmp, Below, UpTo}
use Rattle.sled_store.specs.In.{In}
use Rattle.sled_nodes.specs.Node.{pointers, count, Covers, after_link, value_at}
use Rattle.sled_nodes.specs.Posting.{with_pointer}
use Rattle.sled_nodes.specs.Halves.{left_half, right_half, after_receiving}
use Rattle.sled_nodes.specs.Among.{IsBefore, is_up_to}
use Rattle.std.specs.List.{list_any}
use Rattle.std.specs.declared.ops.Bound.{Bound}
use Rattle.sled_store.specs.State.{Nodes}
use Rattle.sled_nodes.specs.declared.node.Node.{Node}
use Rattle.sled_nodes.specs.declared.node.Data.TheVariants.{Leaf, Index}
use Rattle.sled_nodes.specs.declared.link.Link.TheVariants.{ParentMergeIntention, ParentMergeConfirm, ChildMergeCap}
use Rattle.tree_laws.specs.Forest.{Tree, Forest, Place, place, IsNodeAt, WellFormed, contents, later}
use Rattle.tree_laws.specs.Action.{IsSplit}
use Rattle.tree_laws.specs.theory.Action.{IsReceived}
use Rattle.sled_store.specs.declared.page.View.{View}
use Rattle.tree_laws.specs.Snapshot.{Snapshot, HasForest, nodes_at, StoodInChain, IsOpen, HasRoomForOne, LiesUnder, IsActing}
use Rattle.tree_laws.specs.theory.Snapshot.{Guarantee, GrowsByReceiving, KeepsForest}
use Rattle.tree_laws.specs.theory.Laws.{IsNodeNow, after_replacement, after_allocation, after_free, after_hoist}
use Rattle.tree_laws.specs.Stages.{parent_of, by_pointer, IsWalking, IsSplitting, IsPosting, IsHoisting, IsOver, IsIntending, IsReadingChild, IsStage, owned}
use Rattle.tree_laws.specs.theory.Stages.{IsHere}
use Rattle.tree_laws.specs.declared.flight.Reached.{Reached}
use Rattle.tree_laws.specs.declared.flight.Reached.TheVariants as reached
use Rattle.tree_laws.specs.declared.flight.Posting.{Posting}
use Rattle.tree_laws.specs.declared.flight.Posting.TheVariants as posting
use Rattle.tree_laws.specs.declared.flight.Walk.{Walk}
use Rattle.tree_laws.specs.declared.flight.Split.{Split}
use Rattle.tree_laws.specs.declared.flight.InstallLeft.{InstallLeft}
use Rattle.tree_laws.specs.declared.flight.Post.{Post}
use Rattle.tree_laws.specs.declared.flight.Hoist.{Hoist}
use Rattle.tree_laws.specs.declared.flight.SwapRoot.{SwapRoot}
use Rattle.tree_laws.specs.declared.flight.Orphan.{Orphan}
use Rattle.tree_laws.specs.declared.flight.Merge.{Merge}
use Rattle.tree_laws.specs.declared.flight.Cap.{Cap}
use Rattle.tree_laws.specs.declared.flight.Seek.{Seek}
use Rattle.tree_laws.specs.declared.flight.Receive.{Receive}
use Rattle.tree_laws.specs.declared.flight.Confirm.{Confirm}
use Rattle.tree_laws.specs.declared.flight.Stage.{Stage}
use Rattle.tree_laws.specs.declared.flight.Stage.TheVariants as stage

-- an action of another call
pub record Rely (mine : List ℕ) (lost : Option Tree) (old : Snapshot) (w : Forest) (new : Snapshot) (v : Forest) : Type 0 where
  pub is : HasForest old w
  pub goes : Guarantee mine lost old w new v
  pub grows : GrowsByReceiving (nodes_at old) (nodes_at new) w

-- What a call knows at its stage, it knows still after an action of another call, if its own pages are not the other's
abbrev pub StageStays : Type 0
StageStays = (mine : List ℕ) (lost : Option Tree) (old : Snapshot) (w : Forest) (new : Snapshot) (v : Forest) → Rely mine lost old w new v → (t : Tree) (number : ℕ) (aim : Bound Key) (a : Stage)
    → ((q : ℕ) → In q (owned a) → ¬ (In q mine)) → IsStage old w t number aim a → IsStage new v t number aim a

-- If each page that a call owns now was its own, or is new, or had a home until then, a page that is another call's own and was
-- not this call's own is not so now
abbrev pub ApartLaw : Type 0
ApartLaw = (mine own : List ℕ) (old : Snapshot) (w : Forest) → HasForest old w → ((q : ℕ) → In q own → In q mine ⊎ ((old.pids q ≡ false) ⊎ ((x : Place) × (w.home q ≡ Some x))))
    → (t : Tree) (number : ℕ) (aim : Bound Key) (a : Stage) → IsStage old w t number aim a → (q : ℕ) → In q (owned a) → ¬ (In q mine) → ¬ (In q own)

-- What follows once the walk has read an open page, by what it finds there
pub record FollowsOpenPage (m : Snapshot) (w : Forest) (t : Tree) (number : ℕ) (aim : Bound Key) (look : View) (by : Reached) : Type 0 where
  -- it is too long: it is split, and the right half is posted at the parent or the root
  pub splits_below : (p : View) → parent_of by ≡ Some p → IsSplitting m w t number (record { page = look; posting = posting.Parent p })
  pub splits_root : parent_of by ≡ None → IsSplitting m w t number (record { page = look; posting = posting.Root })
  -- the aim is further on: a root is hoisted, below a parent the walk goes to the next page
  pub hoists : (q : ℕ) → parent_of by ≡ None → look.node.hi ≢ [] → look.node.next ≡ Some q → IsHoisting m w t number (record { left = look.pid; at = look.node.hi; right = q })
  pub goes_on : (p : View) (q : ℕ) → parent_of by ≡ Some p → look.node.hi ≢ [] → is_up_to aim look.node.hi ≡ true → look.node.next ≡ Some q → IsWalking m w t number aim (record { cursor = q; reached = reached.Next p })
  -- it was reached by `next`: its pointer is posted
  pub posts : (p : View) → by ≡ reached.Next p → IsPosting m w t number (record { parent = p; at = look.node.lo; pid = look.pid })
  -- it was reached by a later pointer, and should merge: it becomes the parent's merging child
  pub intends : (p : View) (before : ℕ) → by ≡ reached.LaterPointer p → count look.node.content ≤ 17 → IsBefore look.pid (pointers p.node.content) before
      → IsIntending m w t number (record { parent = p; child = look.pid; before = before })
  -- it is an index that is under the aim: the walk goes down
  pub descends : (es : List (Key × ℕ)) (low : Key) (c : ℕ) (is_first : Bool) → look.node.content ≡ Index es → LiesUnder aim look.node → HasRoomForOne look → In (low, c) es → (is_first ≡ false → In (low, c) (later es))
      → IsWalking m w t number aim (record { cursor = c; reached = by_pointer look is_first })
  -- it is a leaf that is under the aim: the call acts, or answers by a key that the leaf covers
  pub acts : (es : List (Key × Key)) → look.node.content ≡ Leaf es → LiesUnder aim look.node → IsActing m w t number aim look
  pub answers : (es : List (Key × Key)) (key : Key) → look.node.content ≡ Leaf es → Covers look.node key → find key_cmp key (contents (nodes_at m) w t) ≡ value_at look.node.content key

abbrev pub HereLaw : Type 0
HereLaw = (m : Snapshot) (w : Forest) → HasForest m w → (t : Tree) (number : ℕ) (aim : Bound Key) (look : View) (by : Reached) → IsHere m w t number aim look by → IsOpen look.node → FollowsOpenPage m w t number aim look by

-- the root and the cursor, as they are read
abbrev pub RootHereLaw : Type 0
RootHereLaw = (m : Snapshot) (w : Forest) → HasForest m w → (t : Tree) (number : ℕ) (aim : Bound Key) (look : View) → m.numbers t ≡ Some number → m.state.roots t ≡ Some look.pid → m.state.pages look.pid ≡ Some (record { version = look.version; node = look.node })
    → IsHere m w t number aim look reached.Root

abbrev pub CursorHereLaw : Type 0
CursorHereLaw = (m : Snapshot) (w : Forest) → HasForest m w → (t : Tree) (number : ℕ) (aim : Bound Key) (a : Walk) (look : View) → m.numbers t ≡ Some number → IsWalking m w t number aim a → look.pid ≡ a.cursor → m.state.pages look.pid ≡ Some (record { version = look.version; node = look.node })
    → IsHere m w t number aim look a.reached

-- A page that was on a level was read with a merging child of its own: that merge begins. So it does if the walk, the search for the
-- page before a child, or the reading of a child finds one
abbrev pub StoodMergesLaw : Type 0
StoodMergesLaw = (m : Snapshot) (w : Forest) (t : Tree) (number h : ℕ) (look : View) (lo : Key) → HasForest m w → m.numbers t ≡ Some number → StoodInChain m w (place t h) number lo look.pid → m.state.pages look.pid ≡ Some (record { version = look.version; node = look.node })
    → look.node.merging ≡ false → (c before : ℕ) → look.node.merging_child ≡ Some c → IsBefore c (pointers look.node.content) before → IsReadingChild m w t number (record { parent = look; child = c; before = before })

-- An action of a call from its stage a to its stage b, which no tree's contents show: what the other calls can count on, and what
-- the call knows then
pub record StageActionLaw (m : Snapshot) (w : Forest) (new : Snapshot) (v : Forest) (t : Tree) (number : ℕ) (aim : Bound Key) (a b : Stage) : Type 0 where
  pub acts : KeepsForest (owned a) (owned b) m w new v
  pub same : (u : Tree) → contents (nodes_at new) v u ≡ contents (nodes_at m) w u
  pub knows : IsStage new v t number aim b

-- A split: the right half is allocated,
abbrev pub SplitAction : Type 0
SplitAction = (m : Snapshot) (w : Forest) (t : Tree) (number : ℕ) (aim : Bound Key) (a : Split) (q version : ℕ) → HasForest m w → m.pids q ≡ false → m.versions version ≡ false → q < 2 ^ 64 → 2 ≤ count a.page.node.content
    → IsStage m w t number aim (stage.Split a)
    → StageActionLaw m w (after_allocation m q (record { version = version; node = right_half a.page.node })) w t number aim (stage.Split a)
    (stage.InstallLeft (record { page = a.page; posting = a.posting; left = record (left_half a.page.node) { next = Some q }; at = (right_half a.page.node).lo; right = q; version = version }))

-- the page becomes the left half, if it has its version and the tree its number, and the right half then is in the tree, and is posted or
-- hoisted over,
abbrev pub posts_half : InstallLeft → Posting → Stage
posts_half a (posting.Parent parent) = stage.Post (record { parent = parent; at = a.at; pid = a.right })
posts_half a posting.Root = stage.Hoist (record { left = a.page.pid; at = a.at; right = a.right })
posts_half a posting.Nowhere = stage.Root

abbrev pub InstallLeftAction : Type 0
InstallLeftAction = (m : Snapshot) (w : Forest) (t : Tree) (number : ℕ) (aim : Bound Key) (a : InstallLeft) (version : ℕ) (node : Node) → HasForest m w → IsNodeNow m t number a.page node → m.versions version ≡ false → IsStage m w t number aim (stage.InstallLeft a)
    → let new : Snapshot = after_replacement m a.page.pid (record { version = version; node = a.left }) in
    (v : Forest) × StageActionLaw m w new v t number aim (stage.InstallLeft a) (posts_half a a.posting) × ((x : Place) × In a.right (v.chain x))

-- or else it is to be freed,
abbrev pub InstallLeftLate : Type 0
InstallLeftLate = (m : Snapshot) (w : Forest) (t : Tree) (number : ℕ) (aim : Bound Key) (a : InstallLeft) → IsStage m w t number aim (stage.InstallLeft a) → IsStage m w t number aim (stage.Free (record { pid = a.right; version = a.version }))

-- and the pointer to it goes into the parent
abbrev pub PostAction : Type 0
PostAction = (m : Snapshot) (w : Forest) (t : Tree) (number : ℕ) (aim : Bound Key) (a : Post) (version : ℕ) (node : Node) → HasForest m w → IsNodeNow m t number a.parent node → m.versions version ≡ false → IsStage m w t number aim (stage.Post a)
    → let new : Snapshot = after_replacement m a.parent.pid (record { version = version; node = record (a.parent.node) { content = with_pointer a.at a.pid a.parent.node.content } }) in
    (v : Forest) × StageActionLaw m w new v t number aim (stage.Post a) stage.Root

-- A hoist: the new root is allocated,
abbrev pub HoistAction : Type 0
HoistAction = (m : Snapshot) (w : Forest) (t : Tree) (number : ℕ) (aim : Bound Key) (a : Hoist) (q version : ℕ) (n : Node) → HasForest m w → m.pids q ≡ false → m.versions version ≡ false → q < 2 ^ 64 → IsOver n a.left a.at a.right
    → IsStage m w t number aim (stage.Hoist a)
    → StageActionLaw m w (after_allocation m q (record { version = version; node = n })) w t number aim (stage.Hoist a) (stage.SwapRoot (record { old = a.left; new = q; version = version }))

-- and set, if the old one is still the root,
abbrev pub SwapRootAction : Type 0
SwapRootAction = (m : Snapshot) (w : Forest) (t : Tree) (number : ℕ) (aim : Bound Key) (a : SwapRoot) → HasForest m w → m.numbers t ≡ Some number → m.state.roots t ≡ Some a.old → IsStage m w t number aim (stage.SwapRoot a)
    → (v : Forest) × StageActionLaw m w (after_hoist m t a.new) v t number aim (stage.SwapRoot a) stage.Root

-- or else it is to be freed,
abbrev pub SwapRootLate : Type 0
SwapRootLate = (m : Snapshot) (w : Forest) (t : Tree) (number : ℕ) (aim : Bound Key) (a : SwapRoot) → IsStage m w t number aim (stage.SwapRoot a) → IsStage m w t number aim (stage.Free (record { pid = a.new; version = a.version }))

-- and a page that is the call's own is freed
abbrev pub FreeAction : Type 0
FreeAction = (m : Snapshot) (w : Forest) (t : Tree) (number : ℕ) (aim : Bound Key) (a : Orphan) → HasForest m w → IsStage m w t number aim (stage.Free a)
    → StageActionLaw m w (after_free m a.pid) w t number aim (stage.Free a) stage.Root

-- A merge: the parent takes the child for its merging child,
abbrev pub IntendAction : Type 0
IntendAction = (m : Snapshot) (w : Forest) (t : Tree) (number : ℕ) (aim : Bound Key) (a : Merge) (version : ℕ) (node : Node) → HasForest m w → IsNodeNow m t number a.parent node → m.versions version ≡ false → IsStage m w t number aim (stage.Intend a)
    → let new : Snapshot = after_replacement m a.parent.pid (record { version = version; node = after_link (ParentMergeIntention a.child) a.parent.node }) in
    (v : Forest) × StageActionLaw m w new v t number aim (stage.Intend a) (stage.Child (record { parent = record { pid = a.parent.pid; version = version; node = record (a.parent.node) { merging_child = Some a.child } }; child = a.child; before = a.before }))

-- the child is read, and is merging already, or open,
abbrev pub ChildSeeks : Type 0
ChildSeeks = (m : Snapshot) (w : Forest) (t : Tree) (number : ℕ) (aim : Bound Key) (a : Merge) (version : ℕ) (d : Node) → m.numbers t ≡ Some number → m.state.pages a.child ≡ Some (record { version = version; node = d }) → d.merging ≡ true → IsStage m w t number aim (stage.Child a)
    → IsStage m w t number aim (stage.Seek (record { merge = a; version = version; node = d; cursor = a.before }))

abbrev pub ChildCaps : Type 0
ChildCaps = (m : Snapshot) (w : Forest) (t : Tree) (number : ℕ) (aim : Bound Key) (a : Merge) (version : ℕ) (d : Node) → HasForest m w → m.numbers t ≡ Some number → m.state.pages a.child ≡ Some (record { version = version; node = d }) → IsOpen d → IsStage m w t number aim (stage.Child a)
    → IsStage m w t number aim (stage.Cap (record { merge = a; version = version; node = d }))

-- it is capped, or, if that came too late, is read again,
abbrev pub CapAction : Type 0
CapAction = (m : Snapshot) (w : Forest) (t : Tree) (number : ℕ) (aim : Bound Key) (a : Cap) (version : ℕ) (node : Node) → HasForest m w → IsNodeNow m t number (record { pid = a.merge.child; version = a.version; node = a.node }) node → m.versions version ≡ false → IsStage m w t number aim (stage.Cap a)
    → let new : Snapshot = after_replacement m a.merge.child (record { version = version; node = after_link ChildMergeCap a.node }) in
    (v : Forest) × StageActionLaw m w new v t number aim (stage.Cap a) (stage.Seek (record { merge = a.merge; version = version; node = after_link ChildMergeCap a.node; cursor = a.merge.before }))

abbrev pub CapLate : Type 0
CapLate = (m : Snapshot) (w : Forest) (t : Tree) (number : ℕ) (aim : Bound Key) (a : Cap) → IsStage m w t number aim (stage.Cap a) → IsStage m w t number aim (stage.Child a.merge)

-- the page before it is looked for: what follows once the search has read an open page
pub record Finds (m : Snapshot) (w : Forest) (t : Tree) (number : ℕ) (aim : Bound Key) (a : Seek) (left : View) : Type 0 where
  -- it ends before where the child begins: the search goes on
  pub further : (q : ℕ) → left.node.hi ≢ [] → Below left.node.hi a.node.lo → left.node.next ≡ Some q → IsStage m w t number aim (stage.Seek (record { merge = a.merge; version = a.version; node = a.node; cursor = q }))
  -- it reaches the place where the child begins and does not lead to it: the child was received
  pub done : (left.node.hi ≡ []) ⊎ UpTo a.node.lo left.node.hi → left.node.next ≢ Some a.merge.child → IsStage m w t number aim (stage.Confirm (record { parent = a.merge.parent; child = a.merge.child; version = a.version }))
  -- it leads to the child: it receives it, or is split first
  pub receives : left.node.next ≡ Some a.merge.child → HasRoomForOne left → IsStage m w t number aim (stage.Receive (record { merge = a.merge; version = a.version; node = a.node; left = left }))
  pub splits : IsStage m w t number aim (stage.Split (record { page = left; posting = posting.Nowhere }))

abbrev pub SeekLaw : Type 0
SeekLaw = (m : Snapshot) (w : Forest) (t : Tree) (number : ℕ) (aim : Bound Key) (a : Seek) (left : View) → HasForest m w → m.numbers t ≡ Some number → left.pid ≡ a.cursor → m.state.pages left.pid ≡ Some (record { version = left.version; node = left.node }) → IsOpen left.node
    → IsStage m w t number aim (stage.Seek a) → Finds m w t number aim a left

-- that page receives the child, or, if that came too late, is looked for again,
abbrev pub ReceiveAction : Type 0
ReceiveAction = (m : Snapshot) (w : Forest) (t : Tree) (number : ℕ) (aim : Bound Key) (a : Receive) (version : ℕ) (node : Node) → HasForest m w → IsNodeNow m t number a.left node → m.versions version ≡ false → IsStage m w t number aim (stage.Receive a)
    → let new : Snapshot = after_replacement m a.left.pid (record { version = version; node = after_receiving a.left.node a.node }) in
    (v : Forest) × StageActionLaw m w new v t number aim (stage.Receive a) (stage.Confirm (record { parent = a.merge.parent; child = a.merge.child; version = a.version }))

abbrev pub ReceiveLate : Type 0
ReceiveLate = (m : Snapshot) (w : Forest) (t : Tree) (number : ℕ) (aim : Bound Key) (a : Receive) → IsStage m w t number aim (stage.Receive a) → IsStage m w t number aim (stage.Seek (record { merge = a.merge; version = a.version; node = a.node; cursor = a.left.pid }))

-- and the pointer to the child goes, and the child is the call's own
abbrev pub ConfirmAction : Type 0
ConfirmAction = (m : Snapshot) (w : Forest) (t : Tree) (number : ℕ) (aim : Bound Key) (a : Confirm) (version : ℕ) (node : Node) → HasForest m w → IsNodeNow m t number a.parent node → m.versions version ≡ false → IsStage m w t number aim (stage.Confirm a)
    → let new : Snapshot = after_replacement m a.parent.pid (record { version = version; node = after_link ParentMergeConfirm a.parent.node }) in
    (v : Forest) × StageActionLaw m w new v t number aim (stage.Confirm a) (stage.Free (record { pid = a.child; version = a.version }))

-- the halves of a page make a split, whatever its height, if the right half is the page q
pub record IsHalved (n left right : Node) (q : ℕ) : Type 0 where
  pub split : (h : ℕ) → IsNodeAt h n → IsOpen n → IsSplit h n left right q

-- n with what the page behind it holds, whatever its height
pub record IsJoined (n d both : Node) : Type 0 where
  pub joined : (h : ℕ) → IsNodeAt h n → IsNodeAt h d → n.hi ≡ d.lo → Below n.lo d.lo → (d.hi ≡ []) ⊎ Below d.lo d.hi → IsReceived h n d both

-- The halves of a node of two entries or more are halves, the joined node is joined, and the pointer before one to a page is below it
abbrev pub HalvedLaw : Type 0
HalvedLaw = (n : Node) (q : ℕ) → 2 ≤ count n.content → IsHalved n (record (left_half n) { next = Some q }) (right_half n) q

abbrev pub JoinedLaw : Type 0
JoinedLaw = (n d : Node) → IsJoined n d (after_receiving n d)

abbrev pub BeforeLaw : Type 0
BeforeLaw = (h : ℕ) (n : Node) (c b : ℕ) → IsNodeAt h n → (k : IsBefore c (pointers n.content) b) → In (k.key, c) (pointers n.content) × In (k.low, b) (pointers n.content) × Below k.low k.key

-- A merging child has a pointer before its own. The page that it names is in the chain, and begins at the pointer's key, which is
-- lower
abbrev pub BeforeChildLaw : Type 0
BeforeChildLaw = (nodes : Nodes) (roots : Tree → Option ℕ) (w : Forest) → WellFormed nodes roots w → (t : Tree) (h p : ℕ) (n : Node) (c : ℕ) → In p (w.chain (place t (suc h))) → nodes p ≡ Some n → n.merging_child ≡ Some c
    → ((b : ℕ) × IsBefore c (pointers n.content) b)
    × ((b : ℕ) → (k : IsBefore c (pointers n.content) b) → (d : Node) × In b (w.chain (place t h)) × (nodes b ≡ Some d) × (d.lo ≡ k.low) × Below k.low k.key)

-- an index whose lo is within an upper bound has a pointer within it
abbrev pub LeadsDownLaw : Type 0
LeadsDownLaw = (h : ℕ) (n : Node) (bound : Bound Key) (es : List (Key × ℕ)) → IsNodeAt (suc h) n → n.content ≡ Index es → is_up_to bound n.lo ≡ true → list_any (λ e. is_up_to bound e.0) es ≡ true
