-- The laws of the actions of splits and merges, as types.
use Rattle.std.specs.Prelude.{◌≡◌, ◌≢◌, ◌⊎◌, ℕ, suc, ◌≤◌, true, false, List, [], ◌∷◌, length, Option, Some, None}
use Rattle.std.specs.FinMap.Entries.{put}
use Rattle.sled_nodes.specs.Order.{Key, key_cmp, Below, UpTo}
use Rattle.sled_store.specs.In.{In}
use Rattle.sled_nodes.specs.Node.{pointers, count, Covers, after_link}
use Rattle.sled_store.specs.State.{Nodes}
use Rattle.sled_nodes.specs.declared.node.Node.{Node}
use Rattle.sled_nodes.specs.declared.node.Data.TheVariants.{Index}
use Rattle.sled_nodes.specs.declared.link.Link.TheVariants.{ParentMergeIntention, ParentMergeConfirm, ChildMergeCap}
use Rattle.tree_laws.specs.Forest.{Tree, Forest, Place, place, WellFormed, IsSized, contents, later}
use Rattle.tree_laws.specs.Action.{IsSplit}
use Rattle.tree_laws.specs.theory.Action.{put_node, IsReceived}
use Rattle.tree_laws.specs.Snapshot.{IsOpen, IsOrphan}
use Rattle.tree_laws.specs.theory.Snapshot.{KeepsNodes, GrowsByReceiving}

-- an open page of the chain at x
pub record IsOpenAt (nodes : Nodes) (w : Forest) (x : Place) (p : ℕ) (n : Node) : Type 0 where
  pub chained : In p (w.chain x)
  pub live : nodes p ≡ Some n
  pub is_open : IsOpen n

-- A change that no tree's contents show: there is a forest after it. If the pages are small enough, the size is kept too
pub record Unseen (mine : List ℕ) (nodes new : Nodes) (roots : Tree → Option ℕ) (w : Forest) (fits : Type 0) : Type 0 where
  pub after : Forest
  pub kept : WellFormed new roots after
  pub same : (t : Tree) → contents new after t ≡ contents nodes w t
  pub keeps : KeepsNodes mine None nodes new w after
  pub sized : fits → IsSized nodes w → IsSized new after
  pub grows : fits → GrowsByReceiving nodes new w

-- An open page of a chain is replaced by its left half, whose next is the page q with the right half. The page q had no
-- home, and then is in the chain. The halves are no larger than the page was, so the size is kept
abbrev pub SplitLaw : Type 0
SplitLaw = (nodes : Nodes) (roots : Tree → Option ℕ) (w : Forest) → WellFormed nodes roots w → (x : Place) (p q : ℕ) (n left right : Node)
    → IsOpenAt nodes w x p n → nodes q ≡ Some right → IsOrphan w q → IsSplit x.height n left right q
    → (u : Unseen (q ∷ []) nodes (put_node nodes p left) roots w (Unit {0})) × In q (u.after.chain x)

-- A pointer to a page of the level below goes into an open index that covers where the page begins
abbrev pub PostLaw : Type 0
PostLaw = (nodes : Nodes) (roots : Tree → Option ℕ) (w : Forest) → WellFormed nodes roots w → (t : Tree) (h p q : ℕ) (n d : Node) (es : List (Key × ℕ))
    → IsOpenAt nodes w (place t (suc h)) p n → n.content ≡ Index es
    → w.home q ≡ Some (place t h) → nodes q ≡ Some d → d.merging ≡ false → Below n.lo d.lo → Covers n d.lo
    → Unseen [] nodes (put_node nodes p (record n { content = Index (put key_cmp d.lo q es) })) roots w (length (put key_cmp d.lo q es) ≤ 17)

-- An open index takes a later child for its merging child. The size is kept if the child has at most 17 entries
abbrev pub IntentionLaw : Type 0
IntentionLaw = (nodes : Nodes) (roots : Tree → Option ℕ) (w : Forest) → WellFormed nodes roots w → (t : Tree) (h p c : ℕ) (n : Node) (k : Key)
    → IsOpenAt nodes w (place t (suc h)) p n → In (k, c) (later (pointers n.content))
    → Unseen [] nodes (put_node nodes p (after_link (ParentMergeIntention c) n)) roots w ((d : Node) → nodes c ≡ Some d → count d.content ≤ 17)

-- An open page becomes merging, if it is the merging child of a page above it
abbrev pub CapLaw : Type 0
CapLaw = (nodes : Nodes) (roots : Tree → Option ℕ) (w : Forest) → WellFormed nodes roots w → (x : Place) (p : ℕ) (n : Node)
    → IsOpenAt nodes w x p n
    → (q : ℕ) (d : Node) → In q (w.chain (place x.tree (suc x.height))) → nodes q ≡ Some d → d.merging_child ≡ Some p
    → Unseen [] nodes (put_node nodes p (after_link ChildMergeCap n)) roots w (Unit {0})

-- An open page receives the capped page c behind it. The page c leaves the chain for good, and keeps its pointer. The size is
-- kept if the page has at most 16 entries
abbrev pub ReceiveLaw : Type 0
ReceiveLaw = (nodes : Nodes) (roots : Tree → Option ℕ) (w : Forest) → WellFormed nodes roots w → (x : Place) (p c : ℕ) (n d both : Node)
    → IsOpenAt nodes w x p n → n.next ≡ Some c
    → nodes c ≡ Some d → d.merging ≡ true → IsReceived x.height n d both
    → (u : Unseen [] nodes (put_node nodes p both) roots w (count n.content ≤ 16)) × ((y : Place) → ¬ (In c (u.after.chain y)))

-- The pointer to the merging child c, which no chain has, goes out of an index. The page c then has no home
abbrev pub ConfirmLaw : Type 0
ConfirmLaw = (nodes : Nodes) (roots : Tree → Option ℕ) (w : Forest) → WellFormed nodes roots w → (t : Tree) (h p c : ℕ) (n : Node)
    → In p (w.chain (place t (suc h))) → nodes p ≡ Some n → n.merging ≡ false → n.merging_child ≡ Some c → ¬ (In c (w.chain (place t h)))
    → (u : Unseen [] nodes (put_node nodes p (after_link ParentMergeConfirm n)) roots w (Unit {0})) × IsOrphan u.after c

-- what begins within an index's bounds, one level below, ends within them
abbrev pub InsideLaw : Type 0
InsideLaw = (nodes : Nodes) (roots : Tree → Option ℕ) (w : Forest) → WellFormed nodes roots w → (t : Tree) (h p q : ℕ) (n m : Node)
    → In p (w.chain (place t (suc h))) → nodes p ≡ Some n → In q (w.chain (place t h)) → nodes q ≡ Some m → Covers n m.lo → (k : Key) → Covers m k → Covers n k

-- a capped page that a page to its left reaches, and does not lead to, is in the chain no longer
abbrev pub ReachedLaw : Type 0
ReachedLaw = (nodes : Nodes) (roots : Tree → Option ℕ) (w : Forest) → WellFormed nodes roots w → (x : Place) (p c : ℕ) (n d : Node)
    → In p (w.chain x) → nodes p ≡ Some n → nodes c ≡ Some d → Below n.lo d.lo → (n.hi ≡ []) ⊎ UpTo d.lo n.hi → n.next ≢ Some c → ¬ (In c (w.chain x))
