-- What a node holds, what it covers, and what a link makes of it.
use Rattle.std.specs.Prelude.{◌≡◌, ℕ, ◌⊎◌, true, not, nat_eq, filter, length, List, [], Option, Some, None}
use Rattle.std.specs.Ordering.{eq_by_cmp}
use Rattle.std.specs.FinMap.Entries.{put, find, where_key}
use Rattle.sled_nodes.specs.Order.{Key, key_cmp, Below, UpTo}
use Rattle.sled_nodes.specs.declared.node.Node.{Node}
use Rattle.sled_nodes.specs.declared.node.Data.{Data}
use Rattle.sled_nodes.specs.declared.node.Data.TheVariants.{Leaf, Index}
use Rattle.sled_nodes.specs.declared.link.Link.{Link}
use Rattle.sled_nodes.specs.declared.link.Link.TheVariants.{Set, Del, ParentMergeIntention, ParentMergeConfirm, ChildMergeCap}

-- a leaf's pairs
abbrev pub pairs : Data → List (Key × Key)
pairs (Leaf es) = es
pairs (Index es) = []

-- an index's pointers
abbrev pub pointers : Data → List (Key × ℕ)
pointers (Leaf es) = []
pointers (Index es) = es

-- how many entries
abbrev pub count : Data → ℕ
count (Leaf es) = length es
count (Index es) = length es

-- lo is at or below k, and k is below hi; an empty hi is no upper bound
abbrev pub Within : Key → Key → Key → Type 0
Within lo hi k = UpTo lo k × ((hi ≡ []) ⊎ Below k hi)

-- the node's range has the key in it
abbrev pub Covers : Node → Key → Type 0
Covers n k = Within n.lo n.hi k

-- the pairs but that at the key
abbrev pub without : {X : Type 0} → Key → List (Key × X) → List (Key × X)
without k es = where_key key_cmp (λ x. not (eq_by_cmp key_cmp k x)) es

-- the pointers but those to the page
abbrev pub unpointed : ℕ → List (Key × ℕ) → List (Key × ℕ)
unpointed c es = filter (λ e. not (nat_eq e.1 c)) es

-- a leaf's value at the key
abbrev pub value_at : Data → Key → Option Key
value_at (Leaf es) k = find key_cmp k es
value_at (Index es) k = None

-- a leaf with the pair in its place
abbrev pub with_pair : Key → Key → Data → Data
with_pair k v (Leaf es) = Leaf (put key_cmp k v es)
with_pair k v (Index es) = Index es

-- a leaf without the key
abbrev pub without_key : Key → Data → Data
without_key k (Leaf es) = Leaf (without k es)
without_key k (Index es) = Index es

-- an index's merging child becomes this one
abbrev pub after_intention : Data → ℕ → Option ℕ → Option ℕ
after_intention (Leaf es) child before = before
after_intention (Index es) child before = Some child

-- an index loses the pointers to its merging child, and has none any more
abbrev pub after_confirm : Data → Option ℕ → Data × Option ℕ
after_confirm (Index es) (Some child) = (Index (unpointed child es), None)
after_confirm (Index es) None = (Index es, None)
after_confirm (Leaf es) child = (Leaf es, child)

-- the node after a link. A link that does not fit the node's kind leaves it as it is
abbrev pub after_link : Link → Node → Node
after_link (Set key value) n = record n { content = with_pair key value n.content }
after_link (Del key) n = record n { content = without_key key n.content }
after_link (ParentMergeIntention child) n = record n { merging_child = after_intention n.content child n.merging_child }
after_link ParentMergeConfirm n = let c = after_confirm n.content n.merging_child in record n { content = c.0; merging_child = c.1 }
after_link ChildMergeCap n = record n { merging = true }
