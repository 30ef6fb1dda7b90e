-- The laws of the actions, as types: of the nodes first, then of the store at a moment.
use Rattle.std.specs.Prelude.{◌≡◌, ◌≢◌, ◌⊎◌, ℕ, suc, ◌<◌, ◌≤◌, ◌^◌, true, false, T, List, [], ◌∷◌, ◌++◌, length, Option, Some, None, option_map}
use Rattle.std.specs.FinMap.Entries.{put, find, is_sorted}
use Rattle.std.specs.List.{AllByRecursion}
use Rattle.std.specs.declared.ops.Bound.{Bound}
use Rattle.std.specs.declared.ops.Bound.TheVariants.{Included}
use Rattle.sled_nodes.specs.Order.{Key, key_cmp, Below, UpTo}
use Rattle.sled_store.specs.In.{In}
use Rattle.sled_store.specs.Update.{put_at, put_name}
use Rattle.sled_nodes.specs.Node.{pairs, count, Covers, without, after_link, value_at}
use Rattle.sled_store.specs.State.{State, Nodes, nodes_of, PageBecomes, RootBecomes, after}
use Rattle.sled_nodes.specs.declared.node.Node.{Node}
use Rattle.sled_nodes.specs.declared.node.Data.{Data}
use Rattle.sled_nodes.specs.declared.node.Data.TheVariants.{Leaf, Index}
use Rattle.sled_nodes.specs.declared.link.Link.TheVariants.{Set, Del}
use Rattle.sled_store.specs.declared.page.Page.{Page}
use Rattle.tree_laws.specs.Forest.{Tree, Forest, Place, place, head, WellFormed, IsSized, contents}
use Rattle.tree_laws.specs.Contents.{trees_of}
use Rattle.tree_laws.specs.Paths.{tree_pages, pages_below, IsClean}
use Rattle.tree_laws.specs.theory.Drops.{IsLeft}
use Rattle.tree_laws.specs.theory.Action.{put_node}
use Rattle.sled_store.specs.declared.page.View.{View}
use Rattle.tree_laws.specs.Snapshot.{Snapshot, HasForest, nodes_at, IsOrphan, IsReadAs, StoodInChain, IsActing}
use Rattle.tree_laws.specs.theory.Snapshot.{KeepsNodes, Guarantee, GrowsByReceiving}

-- a page of the chain at x that is not merging
pub record IsAt (nodes : Nodes) (w : Forest) (x : Place) (p : ℕ) (n : Node) : Type 0 where
  pub chained : In p (w.chain x)
  pub live : nodes p ≡ Some n
  pub not_merging : n.merging ≡ false

-- After a change of one page of the tree t: the shape is kept, the tree's contents are changed so and no other tree's are. If
-- it is small enough, the size is kept too
pub record Changed (nodes new : Nodes) (roots : Tree → Option ℕ) (w : Forest) (t : Tree) (change : List (Key × Key) → List (Key × Key)) (fits : Type 0) : Type 0 where
  pub kept : WellFormed new roots w
  pub here : contents new w t ≡ change (contents nodes w t)
  pub others : (u : Tree) → u ≢ t → contents new w u ≡ contents nodes w u
  pub keeps : KeepsNodes [] None nodes new w w
  pub sized : fits → IsSized nodes w → IsSized new w
  pub grows : fits → GrowsByReceiving nodes new w

-- a `Set` at a leaf that covers the key puts the pair into the tree's contents
abbrev pub SetLaw : Type 0
SetLaw = (nodes : Nodes) (roots : Tree → Option ℕ) (w : Forest) → WellFormed nodes roots w → (t : Tree) (p : ℕ) (n : Node) (k v : Key)
    → IsAt nodes w (place t 0) p n → Covers n k → Changed nodes (put_node nodes p (after_link (Set k v) n)) roots w t (put key_cmp k v) (count (after_link (Set k v) n).content ≤ 17)

-- a `Del` at a leaf that covers the key takes it out of the tree's contents
abbrev pub DelLaw : Type 0
DelLaw = (nodes : Nodes) (roots : Tree → Option ℕ) (w : Forest) → WellFormed nodes roots w → (t : Tree) (p : ℕ) (n : Node) (k : Key)
    → IsAt nodes w (place t 0) p n → Covers n k
    → Changed nodes (put_node nodes p (after_link (Del k) n)) roots w t (without k) (Unit {0})

-- The pages stay, and the tree t's root becomes this
pub record Rooted (mine : List ℕ) (lost : Option Tree) (nodes : Nodes) (roots : Tree → Option ℕ) (w : Forest) (t : Tree) (root : Option ℕ) : Type 0 where
  pub after : Forest
  pub kept : WellFormed nodes (put_name roots t root) after
  pub others : (u : Tree) → u ≢ t → contents nodes after u ≡ contents nodes w u
  pub keeps : KeepsNodes mine lost nodes nodes w after
  pub sized : IsSized nodes w → IsSized nodes after

-- a page with empty bounds, alone on its level
pub record IsAlone (nodes : Nodes) (p : ℕ) (n : Node) (c : Data) : Type 0 where
  pub live : nodes p ≡ Some n
  pub lo : n.lo ≡ []
  pub hi : n.hi ≡ []
  pub next : n.next ≡ None
  pub merging : n.merging ≡ false
  pub merging_child : n.merging_child ≡ None
  pub content : n.content ≡ c

-- a new tree, whose root is an empty leaf without a home, is empty
abbrev pub PlantLaw : Type 0
PlantLaw = (nodes : Nodes) (roots : Tree → Option ℕ) (w : Forest) → WellFormed nodes roots w → (t : Tree) (r : ℕ) (n : Node)
    → roots t ≡ None → IsOrphan w r → IsAlone nodes r n (Leaf [])
    → (u : Rooted (r ∷ []) None nodes roots w t (Some r)) × (contents nodes u.after t ≡ []) × In r (u.after.chain (place t 0))

-- the root of t becomes the index r over the old root and a page of the old root's level
abbrev pub HoistLaw : Type 0
HoistLaw = (nodes : Nodes) (roots : Tree → Option ℕ) (w : Forest) → WellFormed nodes roots w → (t : Tree) (h left right r : ℕ) (n d : Node)
    → roots t ≡ Some left → IsOrphan w r → In left (w.chain (place t h)) → In right (w.chain (place t h)) → nodes right ≡ Some d → Below [] d.lo
    → IsAlone nodes r n (Index (([], left) ∷ (d.lo, right) ∷ []))
    → (u : Rooted (r ∷ []) None nodes roots w t (Some r)) × (contents nodes u.after t ≡ contents nodes w t) × In r (u.after.chain (place t (suc h)))

-- a tree goes, and its pages have no home then
abbrev pub DropLaw : Type 0
DropLaw = (nodes : Nodes) (roots : Tree → Option ℕ) (w : Forest) → WellFormed nodes roots w → (t : Tree)
    → (u : Rooted [] (Some t) nodes roots w t None) × ((p h : ℕ) → w.home p ≡ Some (place t h) → IsOrphan u.after p)

-- what the leaf that covers a key has at it is what the tree has at it
abbrev pub FindLaw : Type 0
FindLaw = (nodes : Nodes) (roots : Tree → Option ℕ) (w : Forest) → WellFormed nodes roots w → (t : Tree) (p : ℕ) (n : Node) (k : Key)
    → In p (w.chain (place t 0)) → nodes p ≡ Some n → Covers n k → find key_cmp k (contents nodes w t) ≡ find key_cmp k (pairs n.content)

-- the contents of a tree ascend
abbrev pub SortedLaw : Type 0
SortedLaw = (nodes : Nodes) (roots : Tree → Option ℕ) (w : Forest) → WellFormed nodes roots w → (t : Tree) → T (is_sorted key_cmp (contents nodes w t))

-- the pages and the roots determine the forest, and so the contents
abbrev pub OneLaw : Type 0
OneLaw = (nodes : Nodes) (roots : Tree → Option ℕ) (w v : Forest) → WellFormed nodes roots w → WellFormed nodes roots v → w ≡ v

-- no page and no tree
abbrev pub no_forest : Forest
no_forest = record { chain = λ x. []; home = λ p. None }

abbrev pub EmptyLaw : Type 0
EmptyLaw = WellFormed (λ p. None) (λ t. None) no_forest × IsSized (λ p. None) no_forest

-- the moment after a page got a new version, after a new page, and after a page went
abbrev pub after_replacement : Snapshot → ℕ → Page → Snapshot
after_replacement m p g = record m { state = after (PageBecomes p (Some g)) m.state; versions = put_at m.versions g.version true }

abbrev pub after_allocation : Snapshot → ℕ → Page → Snapshot
after_allocation m p g = record m { state = after (PageBecomes p (Some g)) m.state; pids = put_at m.pids p true; versions = put_at m.versions g.version true }

abbrev pub after_free : Snapshot → ℕ → Snapshot
after_free m p = record m { state = after (PageBecomes p None) m.state }

-- the moment after a name got its first root, after a tree's root became another, and after a tree went
abbrev pub after_creation : Snapshot → Tree → ℕ → ℕ → Snapshot
after_creation m t r number = record m { state = after (RootBecomes t (Some r)) m.state; numbers = put_name m.numbers t (Some number); given = put_at m.given number true }

abbrev pub after_hoist : Snapshot → Tree → ℕ → Snapshot
after_hoist m t r = record m { state = after (RootBecomes t (Some r)) m.state }

abbrev pub after_drop : Snapshot → Tree → Snapshot
after_drop m t = record m { state = after (RootBecomes t None) m.state; numbers = put_name m.numbers t None }

-- one action of a call, to a moment with a forest, that keeps what others know
pub record StepsForest (mine : List ℕ) (lost : Option Tree) (old : Snapshot) (w : Forest) (new : Snapshot) (v : Forest) : Type 0 where
  pub is : HasForest new v
  pub goes : Guarantee mine lost old w new v

-- what a law says of the nodes holds of the pages with versions, if the version was never given, and the page is not merging
-- and has a home or is the call's own
abbrev pub ReplaceLaw : Type 0
ReplaceLaw = (mine : List ℕ) (m : Snapshot) (w v : Forest) (p : ℕ) (g new : Page) → HasForest m w → m.state.pages p ≡ Some g → g.node.merging ≡ false → m.versions new.version ≡ false
    → ((x : Place) × (w.home p ≡ Some x)) ⊎ In p mine
    → WellFormed (put_node (nodes_at m) p new.node) m.state.roots v → KeepsNodes mine None (nodes_at m) (put_node (nodes_at m) p new.node) w v
    → StepsForest mine None m w (after_replacement m p new) v

-- a new page has no home, and no tree's contents change
abbrev pub AllocateLaw : Type 0
AllocateLaw = (m : Snapshot) (w : Forest) (p : ℕ) (g : Page) → HasForest m w → m.pids p ≡ false → m.versions g.version ≡ false → p < 2 ^ 64
    → StepsForest (p ∷ []) None m w (after_allocation m p g) w × IsOrphan w p × ((t : Tree) → contents (nodes_at (after_allocation m p g)) w t ≡ contents (nodes_at m) w t)
    × (IsSized (nodes_at m) w → IsSized (nodes_at (after_allocation m p g)) w)
    × GrowsByReceiving (nodes_at m) (nodes_at (after_allocation m p g)) w

-- a page without a home goes, and no tree's contents change
abbrev pub FreeLaw : Type 0
FreeLaw = (m : Snapshot) (w : Forest) (p : ℕ) → HasForest m w → IsOrphan w p
    → StepsForest (p ∷ []) None m w (after_free m p) w × ((t : Tree) → contents (nodes_at (after_free m p)) w t ≡ contents (nodes_at m) w t)
    × (IsSized (nodes_at m) w → IsSized (nodes_at (after_free m p)) w)
    × GrowsByReceiving (nodes_at m) (nodes_at (after_free m p)) w

-- a name without a root gets a root and a number that was never given
abbrev pub PlantedLaw : Type 0
PlantedLaw = (m : Snapshot) (w : Forest) (t : Tree) (r number : ℕ) (n : Node) → HasForest m w → m.state.roots t ≡ None → m.given number ≡ false
    → IsOrphan w r → n.merging ≡ false → nodes_at m r ≡ Some n → (u : Rooted (r ∷ []) None (nodes_at m) m.state.roots w t (Some r))
    → StepsForest (r ∷ []) None m w (after_creation m t r number) u.after

-- a tree's root becomes another, a page without a home
abbrev pub HoistedLaw : Type 0
HoistedLaw = (m : Snapshot) (w : Forest) (t : Tree) (left r : ℕ) (n : Node) → HasForest m w → m.state.roots t ≡ Some left
    → IsOrphan w r → n.merging ≡ false → nodes_at m r ≡ Some n → (u : Rooted (r ∷ []) None (nodes_at m) m.state.roots w t (Some r))
    → StepsForest (r ∷ []) None m w (after_hoist m t r) u.after

-- a tree goes, with its number
abbrev pub DroppedLaw : Type 0
DroppedLaw = (m : Snapshot) (w : Forest) (t : Tree) → HasForest m w → (u : Rooted [] (Some t) (nodes_at m) m.state.roots w t None)
    → StepsForest [] (Some t) m w (after_drop m t) u.after

-- what a call knows survives each action of others: a view
abbrev pub ViewLaw : Type 0
ViewLaw = (mine : List ℕ) (lost : Option Tree) (old new : Snapshot) (w v : Forest) → Guarantee mine lost old w new v → (p version : ℕ) (n : Node) → IsReadAs old p version n → IsReadAs new p version n

-- .. and that a page was in a chain
abbrev pub StoodLaw : Type 0
StoodLaw = (mine : List ℕ) (lost : Option Tree) (old new : Snapshot) (w v : Forest) → Guarantee mine lost old w new v → (x : Place) (number : ℕ) (lo : Key) (p : ℕ) → StoodInChain old w x number lo p → StoodInChain new v x number lo p

-- a page that was in a chain, is live and not merging, and whose tree has its number still, is there now
abbrev pub NowLaw : Type 0
NowLaw = (m : Snapshot) (w : Forest) (x : Place) (number : ℕ) (lo : Key) (p : ℕ) → StoodInChain m w x number lo p → m.numbers x.tree ≡ Some number → (n : Node) → nodes_at m p ≡ Some n → n.merging ≡ false → In p (w.chain x) × (n.lo ≡ lo)

-- the contents as a function of the state are the forest's
abbrev pub ContentsLaw : Type 0
ContentsLaw = (s : State) (w : Forest) → WellFormed (nodes_of s) s.roots w → ((p : ℕ) (g : Page) → s.pages p ≡ Some g → p < 2 ^ 64)
    → (t : Tree) → trees_of s t ≡ option_map (λ _. contents (nodes_of s) w t) (s.roots t)

-- the page of a view has the view's version still, and is this node; and the tree has its number
pub record IsNodeNow (m : Snapshot) (t : Tree) (number : ℕ) (look : View) (node : Node) : Type 0 where
  pub named : m.numbers t ≡ Some number
  pub page : m.state.pages look.pid ≡ Some (record { version = look.version; node = node })

-- a step that changes the contents of the tree t so and no other tree's, and the forest not at all. If the page is small enough,
-- the size is kept too
pub record Written (old : Snapshot) (w : Forest) (new : Snapshot) (t : Tree) (change : List (Key × Key) → List (Key × Key)) (fits : Type 0) : Type 0 where
  pub steps : StepsForest [] None old w new w
  pub here : contents (nodes_at new) w t ≡ change (contents (nodes_at old) w t)
  pub others : (u : Tree) → u ≢ t → contents (nodes_at new) w u ≡ contents (nodes_at old) w u
  pub sized : fits → IsSized (nodes_at old) w → IsSized (nodes_at new) w
  pub grows : fits → GrowsByReceiving (nodes_at old) (nodes_at new) w

-- a `Set` at the leaf that a call means to change puts the pair into the tree's contents
abbrev pub WriteLaw : Type 0
WriteLaw = (m : Snapshot) (w : Forest) → HasForest m w → (t : Tree) (number : ℕ) (key : Key) (look : View) (node : Node) → IsActing m w t number (Included key) look → IsNodeNow m t number look node
    → (value : Key) (version : ℕ) → m.versions version ≡ false
    → Written m w (after_replacement m look.pid (record { version = version; node = after_link (Set key value) node })) t (put key_cmp key value) (count (after_link (Set key value) node).content ≤ 17)

-- a `Del` takes it out
abbrev pub EraseLaw : Type 0
EraseLaw = (m : Snapshot) (w : Forest) → HasForest m w → (t : Tree) (number : ℕ) (key : Key) (look : View) (node : Node) → IsActing m w t number (Included key) look → IsNodeNow m t number look node
    → (version : ℕ) → m.versions version ≡ false
    → Written m w (after_replacement m look.pid (record { version = version; node = after_link (Del key) node })) t (without key) (Unit {0})

-- and what the view has at the key is what the tree has at it then
abbrev pub AnswerLaw : Type 0
AnswerLaw = (m : Snapshot) (w : Forest) → HasForest m w → (t : Tree) (number : ℕ) (key : Key) (look : View) (node : Node) → IsActing m w t number (Included key) look → IsNodeNow m t number look node
    → find key_cmp key (contents (nodes_at m) w t) ≡ value_at look.node.content key

-- a leaf that a call means to change stays so through each action of others
abbrev pub ActingLaw : Type 0
ActingLaw = (mine : List ℕ) (lost : Option Tree) (old new : Snapshot) (w v : Forest) → Guarantee mine lost old w new v → (t : Tree) (number : ℕ) (aim : Bound Key) (look : View) → IsActing old w t number aim look → IsActing new v t number aim look

-- the number of a tree's pages as a function is the forest's: those of the levels from the root's down
abbrev pub PagesLaw : Type 0
PagesLaw = (s : State) (w : Forest) → WellFormed (nodes_of s) s.roots w → ((p : ℕ) (g : Page) → s.pages p ≡ Some g → p < 2 ^ 64)
    → (t : Tree) (root : ℕ) → s.roots t ≡ Some root → (h : ℕ) × In root (w.chain (place t h)) × (tree_pages s t ≡ pages_below w t (suc h))

-- right after the drop of a tree all of each chain is left
abbrev pub LeftLaw : Type 0
LeftLaw = (m : Snapshot) (w : Forest) (t : Tree) → HasForest m w → (u : Rooted [] (Some t) (nodes_at m) m.state.roots w t None) → ((p h : ℕ) → w.home p ≡ Some (place t h) → IsOrphan u.after p)
    → (h : ℕ) → IsLeft (after_drop m t) u.after w t h (head (w.chain (place t h))) (w.chain (place t h))

-- the first page that is left of a level is freed, and the rest of the level is left, from its next page on
abbrev pub FreesLeftLaw : Type 0
FreesLeftLaw = (m : Snapshot) (w was : Forest) (t : Tree) (h p : ℕ) (left : List ℕ) (n : Node) → HasForest m w → nodes_at m p ≡ Some n → IsLeft m w was t h (Some p) left
    → (rest : List ℕ) × (left ≡ p ∷ rest) × StepsForest (p ∷ []) None m w (after_free m p) w × IsLeft (after_free m p) w was t h n.next rest

-- a leaf's pairs are the part of the tree's contents that are within its bounds
abbrev pub RangeLaw : Type 0
RangeLaw = (nodes : Nodes) (roots : Tree → Option ℕ) (w : Forest) → WellFormed nodes roots w → (t : Tree) (p : ℕ) (n : Node) → In p (w.chain (place t 0)) → nodes p ≡ Some n
    → (before : List (Key × Key)) × (behind : List (Key × Key)) × (contents nodes w t ≡ before ++ (pairs n.content ++ behind))
    × AllByRecursion (λ e. Below e.0 n.lo) before
    × AllByRecursion (λ e. Covers n e.0) (pairs n.content)
    × AllByRecursion (λ e. (n.hi ≢ []) × UpTo n.hi e.0) behind

-- a clean path has a page of each level
abbrev pub CleanLaw : Type 0
CleanLaw = (s : State) (w : Forest) → WellFormed (nodes_of s) s.roots w → (t : Tree) (aim : Bound Key) (path : List ℕ) → IsClean s t aim path
    → (h root : ℕ) × (s.roots t ≡ Some root) × In root (w.chain (place t h)) × (length path ≡ suc h)
