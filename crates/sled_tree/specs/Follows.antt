-- What a call does next: after a page that it read, and after an action.
--
-- Each table is total: of its lines the first one whose condition holds says what comes.
use Rattle.std.specs.Prelude.{◌≡◌, ◌≢◌, ℕ, ◌<◌, ◌≤◌, ◌⊎◌, Bool, true, [], Option, Some, None, MatchOption, Result, Ok, Err}
use Rattle.std.specs.declared.ops.Bound.{Bound}
use Rattle.sled_nodes.specs.Order.{Key, UpTo}
use Rattle.sled_nodes.specs.Among.{is_up_to, IsPointerFor, IsPointerBefore}
use Rattle.sled_nodes.specs.Halves.{left_half, right_half, after_receiving}
use Rattle.sled_nodes.specs.Node.{count, pointers, after_link}
use Rattle.sled_nodes.specs.Posting.{IsOpen, IsIndex, with_pointer, takes_pointer}
use Rattle.sled_store.specs.Store.{Store, now, view_of, Allocates, Changes, Frees, SwapsRoot, IsReadRefused, IsRefused}
use Rattle.sled_nodes.specs.declared.error.Error.{Error}
use Rattle.sled_nodes.specs.declared.error.Error.TheVariants.{NoMemory}
use Rattle.sled_nodes.specs.declared.link.Link.TheVariants.{ParentMergeIntention, ParentMergeConfirm, ChildMergeCap}
use Rattle.sled_nodes.specs.declared.node.Node.{Node}
use Rattle.sled_nodes.specs.declared.node.Data.{Data}
use Rattle.sled_nodes.specs.declared.node.Data.TheVariants.{Leaf, Index}
use Rattle.sled_store.specs.declared.page.View.{View}
use Rattle.sled_nodes.specs.Ranges.{Range}
use Rattle.sled_model.specs.Answer.{key_of}
use Rattle.sled_model.specs.State.{range_of}
use Rattle.sled_model.specs.Maps.{Merge as Operator}
use Rattle.sled_model.specs.declared.reply.Reply.{Reply}
use Rattle.tree_laws.specs.Snapshot.{LiesUnder}
use Rattle.tree_laws.specs.Stages.{IsOver, parent_of, by_pointer}
use Rattle.sled_tree.specs.Change.{decision_at, reply_at, link_of}
use Rattle.sled_tree.specs.Course.{Course, course_of}
use Rattle.sled_tree.specs.declared.flight.InFlight.{InFlight}
use Rattle.sled_tree.specs.declared.flight.Went.{Went}
use Rattle.tree_laws.specs.declared.flight.Split.{Split}
use Rattle.tree_laws.specs.declared.flight.InstallLeft.{InstallLeft}
use Rattle.tree_laws.specs.declared.flight.Post.{Post}
use Rattle.tree_laws.specs.declared.flight.Hoist.{Hoist}
use Rattle.tree_laws.specs.declared.flight.SwapRoot.{SwapRoot}
use Rattle.tree_laws.specs.declared.flight.Orphan.{Orphan}
use Rattle.tree_laws.specs.declared.flight.Cap.{Cap}
use Rattle.tree_laws.specs.declared.flight.Receive.{Receive}
use Rattle.tree_laws.specs.declared.flight.Confirm.{Confirm}
use Rattle.sled_tree.specs.declared.flight.Went.TheVariants as went
use Rattle.tree_laws.specs.declared.flight.Merge.{Merge}
use Rattle.tree_laws.specs.declared.flight.Seek.{Seek}
use Rattle.tree_laws.specs.declared.flight.Walk.{Walk}
use Rattle.tree_laws.specs.declared.flight.Posting.{Posting}
use Rattle.tree_laws.specs.declared.flight.Posting.TheVariants as posting
use Rattle.sled_tree.specs.declared.flight.Sequel.{Sequel}
use Rattle.sled_tree.specs.declared.flight.Sequel.TheVariants.{Go, Decided, Refused}
use Rattle.tree_laws.specs.declared.flight.Stage.{Stage}
use Rattle.tree_laws.specs.declared.flight.Stage.TheVariants as stage
use Rattle.tree_laws.specs.declared.flight.Reached.{Reached}
use Rattle.tree_laws.specs.declared.flight.Reached.TheVariants as reached

-- one line of a table and the lines below it: the one where the condition holds, and else the other
abbrev pub Where : Type 0 → Type 0 → Type 0 → Type 0
Where condition here below = (condition × here) ⊎ ((condition → ⊥) × below)

-- .. or the call is refused for want of memory
abbrev pub OrNoMemory : Sequel → Sequel → Type 0
OrNoMemory next comes = (next ≡ comes) ⊎ (next ≡ Refused NoMemory)

-- a half-done merge goes on from the reading of its child, if there is a pointer before the child's
abbrev pub resumed : View → ℕ → Option ℕ → Sequel
resumed v child None = Go stage.Root
resumed v child (Some before) = Go (stage.Child (record { parent = v; child = child; before = before }))

pub record ResumesMerge (v : View) (child : ℕ) (next : Sequel) : Type 0 where
  pub before : Option ℕ
  pub is_before : IsPointerBefore child (pointers v.node.content) before
  pub is : next ≡ resumed v child before

-- a merge begins, if the parent has a pointer before the page's
abbrev pub begun : View → ℕ → Option ℕ → Sequel
begun parent child None = Go stage.Root
begun parent child (Some before) = Go (stage.Intend (record { parent = parent; child = child; before = before }))

pub record BeginsMerge (parent : View) (child : ℕ) (next : Sequel) : Type 0 where
  pub before : Option ℕ
  pub is_before : IsPointerBefore child (pointers parent.node.content) before
  pub is : next ≡ begun parent child before

-- the index can have a merging child
abbrev pub MayMerge : View → Type 0
MayMerge parent = IsIndex parent.node.content × IsOpen parent.node

-- the right half of a page that is split gets its pointer in the index that the walk came through, or in a new root
abbrev pub posting_of : Option View → Posting
posting_of None = posting.Root
posting_of (Some parent) = posting.Parent parent

-- the page next to one that ends within the aim: below a parent it is read, beside the root a new root comes over both
abbrev pub onward : View → Option ℕ → Option View → Sequel
onward v None parent = Go stage.Root
onward v (Some q) None = Go (stage.Hoist (record { left = v.pid; at = v.node.hi; right = q }))
onward v (Some q) (Some parent) = Go (stage.Walk (record { cursor = q; reached = reached.Next parent }))

-- a page that was reached by `next` gets a pointer
abbrev pub pointed : View → View → Sequel
pointed v parent = Go (stage.Post (record { parent = parent; at = v.node.lo; pid = v.pid }))

-- the last pointer of an index within the aim is followed
abbrev pub down : View → Option (ℕ × Bool) → Sequel
down v None = Go stage.Root
down v (Some c) = Go (stage.Walk (record { cursor = c.0; reached = by_pointer v c.1 }))

pub record GoesDown (j : Course) (v : View) (next : Sequel) : Type 0 where
  pub found : Option (ℕ × Bool)
  pub is_last : IsPointerFor j.aim (pointers v.node.content) found
  pub is : next ≡ down v found

-- a call that changes nothing is decided at its leaf, and any other is to link its change
abbrev pub done_at : View → Option Reply → Sequel
done_at v (Some reply) = Decided reply
done_at v None = Go (stage.Act v)

-- a scan is to give the pairs of its leaf
abbrev pub kept_at : View → Sequel
kept_at v = Go (stage.Give (record { leaf = v; given = 0 }))

abbrev pub follows_leaf_as : Option Range → Course → View → Sequel → Type 0
follows_leaf_as None j v next = OrNoMemory next (done_at v (reply_at j.call v.node.content))
follows_leaf_as (Some range) j v next = next ≡ kept_at v

abbrev pub follows_leaf : Course → View → Sequel → Type 0
follows_leaf j v next = follows_leaf_as (range_of j.call) j v next

abbrev pub follows_content : Data → Course → View → Sequel → Type 0
follows_content (Index es) j v next = GoesDown j v next
follows_content (Leaf es) j v next = follows_leaf j v next

-- An open page of at most 16 entries that is under the aim. One that was reached by `next` gets its pointer. One of few entries that was
-- reached by a later pointer of an index that can have it for its merging child merges
abbrev pub follows_here : Course → View → Reached → Sequel → Type 0
follows_here j v reached.Root next = follows_content v.node.content j v next
follows_here j v (reached.FirstPointer parent) next = follows_content v.node.content j v next
follows_here j v (reached.LaterPointer parent) next =
    Where (MayMerge parent × (count v.node.content ≤ 3)) (BeginsMerge parent v.pid next)
    (follows_content v.node.content j v next)
follows_here j v (reached.Next parent) next = OrNoMemory next (pointed v parent)

-- the node ends within the aim, so that the aim is behind it
abbrev pub EndsWithin : Node → Bound Key → Type 0
EndsWithin n aim = (n.hi ≢ []) × (is_up_to aim n.hi ≡ true)

-- an open page
abbrev pub follows_open : Course → View → Reached → Sequel → Type 0
follows_open j v by next =
    Where (16 < count v.node.content) (next ≡ Go (stage.Split (record { page = v; posting = posting_of (parent_of by) })))
    (Where (EndsWithin v.node j.aim) (OrNoMemory next (onward v v.node.next (parent_of by)))
    (Where (LiesUnder j.aim v.node) (follows_here j v by next)
    (next ≡ Go stage.Root)))

abbrev pub follows_not_merging : Option ℕ → Course → View → Reached → Sequel → Type 0
follows_not_merging (Some child) j v by next = ResumesMerge v child next
follows_not_merging None j v by next = follows_open j v by next

-- a page of a walk
abbrev pub follows_read : Course → View → Reached → Sequel → Type 0
follows_read j v by next = Where (v.node.merging ≡ true) (next ≡ Go stage.Root) (follows_not_merging v.node.merging_child j v by next)

-- the merging child: one that is capped already is looked for from the page before it on, and an open one is to be capped
abbrev pub follows_child_not_merging : Option ℕ → Merge → View → Sequel → Type 0
follows_child_not_merging (Some child) merge v next = ResumesMerge v child next
follows_child_not_merging None merge v next = next ≡ Go (stage.Cap (record { merge = merge; version = v.version; node = v.node }))

abbrev pub follows_child : Merge → View → Sequel → Type 0
follows_child merge v next =
    Where (v.node.merging ≡ true) (next ≡ Go (stage.Seek (record { merge = merge; version = v.version; node = v.node; cursor = merge.before })))
    (follows_child_not_merging v.node.merging_child merge v next)

-- The search for the page before the merging child. The one that leads to the child receives it, and splits first if it is too
-- long; if the search came past the child, that was received already
abbrev pub searched : Seek → Option ℕ → Sequel
searched seek None = Go stage.Root
searched seek (Some q) = Go (stage.Seek (record { merge = seek.merge; version = seek.version; node = seek.node; cursor = q }))

-- the node reaches to the key or beyond it
abbrev pub ReachesTo : Node → Key → Type 0
ReachesTo n key = (n.hi ≡ []) ⊎ UpTo key n.hi

abbrev pub follows_met : Seek → View → Sequel → Type 0
follows_met seek v next =
    Where (16 < count v.node.content) (next ≡ Go (stage.Split (record { page = v; posting = posting.Nowhere })))
    (next ≡ Go (stage.Receive (record { merge = seek.merge; version = seek.version; node = seek.node; left = v })))

abbrev pub follows_search : Seek → View → Sequel → Type 0
follows_search seek v next =
    Where (v.node.next ≡ Some seek.merge.child) (follows_met seek v next)
    (Where (ReachesTo v.node seek.node.lo) (next ≡ Go (stage.Confirm (record { parent = seek.merge.parent; child = seek.merge.child; version = seek.version })))
    (next ≡ searched seek v.node.next))

abbrev pub follows_cursor_not_merging : Option ℕ → Seek → View → Sequel → Type 0
follows_cursor_not_merging (Some child) seek v next = ResumesMerge v child next
follows_cursor_not_merging None seek v next = follows_search seek v next

abbrev pub follows_cursor : Seek → View → Sequel → Type 0
follows_cursor seek v next = Where (v.node.merging ≡ true) (next ≡ Go stage.Root) (follows_cursor_not_merging v.node.merging_child seek v next)

-- The page that a stage reads says what comes next. If there is none the call begins again. If the page is not readable the call
-- is refused: for that, or for want of memory
pub record FollowsPage (s : Store) (pid : ℕ) (found : View → Sequel → Type 0) (next : Sequel) : Type 0 where
  pub is : ((s.is_readable pid ≡ true) × MatchOption (view_of pid ((now s).pages pid)) (next ≡ Go stage.Root) (λ v. found v next)) ⊎ ((e : Error) × (next ≡ Refused e) × IsReadRefused pid s e)

abbrev pub follows_root : Course → Store → Option ℕ → Sequel → Type 0
follows_root j s None next = next ≡ Go stage.Root
follows_root j s (Some root) next = FollowsPage s root (λ v. follows_read j v reached.Root) next

abbrev pub follows_walk : Course → Store → Walk → Sequel → Type 0
follows_walk j s a next = FollowsPage s a.cursor (λ v. follows_read j v a.reached) next

-- A stage that acts

-- an action has this result, or the store refuses it, and then the call is refused
abbrev pub OrRefused : Store → Store → Sequel → Type 0 → Type 0
OrRefused old new next comes = comes ⊎ ((e : Error) × (next ≡ Refused e) × IsRefused e old new)

-- a page is changed if it has the version, and what comes is given by the new version; else by the one that it has
abbrev pub TakesWay : (Node → Node) → ℕ → ℕ → Store → Store → Sequel → (ℕ → Sequel) → (Option ℕ → Sequel) → Type 0
TakesWay change pid version old new next took late =
    ((given : ℕ) × Changes change pid version old new (Ok given) × (next ≡ took given))
    ⊎ ((present : Option ℕ) × Changes change pid version old new (Err present) × (next ≡ late present))

-- a change is linked at the version of the leaf that was read, and then the call is decided; by this operator
abbrev pub links_by : Option Operator → Course → Store → Store → View → Sequel → Type 0
links_by operator j old new v next =
    MatchOption (link_of (decision_at operator j.call v.node.content).effect (key_of j.call))
    ((new ≡ old) × (next ≡ Go stage.Root))
    (λ link. TakesWay (after_link link) v.pid v.version old new next (λ _. Decided (decision_at operator j.call v.node.content).reply) (λ _. Go stage.Root))

-- .. by the one that its tree has then
pub record LinksChange (j : Course) (old new : Store) (v : View) (next : Sequel) : Type 0 where
  pub operator : Option Operator
  pub is : links_by operator j old new v next

-- the right half of a long page is made,
pub record SplitsPage (old new : Store) (a : Split) (next : Sequel) : Type 0 where
  pub right : ℕ
  pub version : ℕ
  pub made : Allocates (right_half a.page.node) right version old new
  pub is : next ≡ Go (stage.InstallLeft (record { page = a.page; posting = a.posting; left = record (left_half a.page.node) { next = Some right }; at = (right_half a.page.node).lo; right = right; version = version }))

abbrev pub follows_split : Store → Store → Split → Sequel → Type 0
follows_split old new a next = Where ((16 < count a.page.node.content) × IsOpen a.page.node) (SplitsPage old new a next) ((new ≡ old) × (next ≡ Go stage.Root))

-- the page becomes the left one, and the right one gets its pointer, or else it goes,
abbrev pub after_install_left : InstallLeft → Posting → Sequel
after_install_left a (posting.Parent parent) = Go (stage.Post (record { parent = parent; at = a.at; pid = a.right }))
after_install_left a posting.Root = Go (stage.Hoist (record { left = a.page.pid; at = a.at; right = a.right }))
after_install_left a posting.Nowhere = Go stage.Root

abbrev pub follows_install_left : Store → Store → InstallLeft → Sequel → Type 0
follows_install_left old new a next = TakesWay (λ _. a.left) a.page.pid a.page.version old new next (λ _. after_install_left a a.posting) (λ _. Go (stage.Free (record { pid = a.right; version = a.version })))

-- in an index that has none at its key,
abbrev pub follows_post : Store → Store → Post → Sequel → Type 0
follows_post old new a next =
    Where (takes_pointer a.at a.parent.node.content ≡ true)
    (TakesWay (λ _. record (a.parent.node) { content = with_pointer a.at a.pid a.parent.node.content }) a.parent.pid a.parent.version old new next (λ _. Go stage.Root) (λ _. Go stage.Root))
    ((new ≡ old) × (next ≡ Go stage.Root))

-- or in a new root, which is made and then set
pub record Hoists (old new : Store) (a : Hoist) (next : Sequel) : Type 0 where
  pub root : ℕ
  pub version : ℕ
  pub node : Node
  pub over : IsOver node a.left a.at a.right
  pub made : Allocates node root version old new
  pub is : next ≡ Go (stage.SwapRoot (record { old = a.left; new = root; version = version }))

abbrev pub after_swap_root : SwapRoot → Result (Unit {0}) (Option ℕ) → Sequel
after_swap_root a (Ok done) = Go stage.Root
after_swap_root a (Err present) = Go (stage.Free (record { pid = a.new; version = a.version }))

pub record SwapsTheRoot (name : Key) (old new : Store) (a : SwapRoot) (next : Sequel) : Type 0 where
  pub answer : Result (Unit {0}) (Option ℕ)
  pub swaps : SwapsRoot name (Some a.old) (Some a.new) old new answer
  pub is : next ≡ after_swap_root a answer

-- a page that no tree has is freed
pub record FreesOrphan (old new : Store) (a : Orphan) (next : Sequel) : Type 0 where
  pub answer : Result (Unit {0}) (Option ℕ)
  pub frees : Frees a.pid a.version old new answer
  pub is : next ≡ Go stage.Root

-- a merge: the parent takes the child,
abbrev pub follows_intend : Store → Store → Merge → Sequel → Type 0
follows_intend old new a next =
    TakesWay (after_link (ParentMergeIntention a.child)) a.parent.pid a.parent.version old new next
    (λ given. Go (stage.Child (record { parent = record { pid = a.parent.pid; version = given; node = record (a.parent.node) { merging_child = Some a.child } }; child = a.child; before = a.before })))
    (λ _. Go stage.Root)

-- which is capped,
abbrev pub read_again : Merge → Option ℕ → Sequel
read_again a None = Go stage.Root
read_again a (Some present) = Go (stage.Child a)

abbrev pub follows_cap : Store → Store → Cap → Sequel → Type 0
follows_cap old new a next =
    TakesWay (after_link ChildMergeCap) a.merge.child a.version old new next
    (λ given. Go (stage.Seek (record { merge = a.merge; version = given; node = record (a.node) { merging = true }; cursor = a.merge.before })))
    (read_again a.merge)

-- received,
abbrev pub sought_again : Receive → Option ℕ → Sequel
sought_again a None = Go stage.Root
sought_again a (Some present) = Go (stage.Seek (record { merge = a.merge; version = a.version; node = a.node; cursor = a.left.pid }))

abbrev pub follows_receive : Store → Store → Receive → Sequel → Type 0
follows_receive old new a next =
    TakesWay (λ _. after_receiving a.left.node a.node) a.left.pid a.left.version old new next
    (λ _. Go (stage.Confirm (record { parent = a.merge.parent; child = a.merge.child; version = a.version })))
    (sought_again a)

-- and loses its pointer, after which it is freed
abbrev pub follows_confirm : Store → Store → Confirm → Sequel → Type 0
follows_confirm old new a next =
    TakesWay (after_link ParentMergeConfirm) a.parent.pid a.parent.version old new next
    (λ _. Go (stage.Free (record { pid = a.child; version = a.version })))
    (λ _. Go stage.Root)

-- what a step from a stage does, and what it leads to. A scan that has its leaf is continued elsewhere
abbrev pub follows_as : Course → Store → Stage → Sequel → Store → Type 0
follows_as j old stage.Root next new = (new ≡ old) × follows_root j old ((now old).roots j.tree.name) next
follows_as j old (stage.Walk a) next new = (new ≡ old) × follows_walk j old a next
follows_as j old (stage.Act v) next new = OrRefused old new next (LinksChange j old new v next)
follows_as j old (stage.Give a) next new = ⊥
follows_as j old (stage.Split a) next new = OrRefused old new next (follows_split old new a next)
follows_as j old (stage.InstallLeft a) next new = OrRefused old new next (follows_install_left old new a next)
follows_as j old (stage.Post a) next new = OrRefused old new next (follows_post old new a next)
follows_as j old (stage.Hoist a) next new = OrRefused old new next (Hoists old new a next)
follows_as j old (stage.SwapRoot a) next new = OrRefused old new next (SwapsTheRoot j.tree.name old new a next)
follows_as j old (stage.Free a) next new = OrRefused old new next (FreesOrphan old new a next)
follows_as j old (stage.Intend a) next new = OrRefused old new next (follows_intend old new a next)
follows_as j old (stage.Child a) next new = (new ≡ old) × FollowsPage old a.child (follows_child a) next
follows_as j old (stage.Cap a) next new = OrRefused old new next (follows_cap old new a next)
follows_as j old (stage.Seek a) next new = (new ≡ old) × FollowsPage old a.cursor (follows_cursor a) next
follows_as j old (stage.Receive a) next new = OrRefused old new next (follows_receive old new a next)
follows_as j old (stage.Confirm a) next new = OrRefused old new next (follows_confirm old new a next)

pub record Follows (j : Course) (old : Store) (stage : Stage) (next : Sequel) (new : Store) : Type 0 where
  pub is : follows_as j old stage next new

abbrev pub went_as : Store → InFlight → Went → Store → InFlight → Type 0
went_as old f went.Moved new g = Follows (course_of f) old f.stage (Go g.stage) new
went_as old f (went.Yielded key value) new g = ⊥
went_as old f (went.Decided reply) new g = Follows (course_of f) old f.stage (Decided reply) new
went_as old f (went.Refused e) new g = Follows (course_of f) old f.stage (Refused e) new

-- a step of a call in flight leads where its stage does
pub record FollowsOn (old : Store) (f : InFlight) (went : Went) (new : Store) (g : InFlight) : Type 0 where
  pub is : went_as old f went new g
