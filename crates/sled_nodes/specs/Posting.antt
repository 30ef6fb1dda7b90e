-- An index that takes one pointer more, and what a node is asked before it splits or merges.
use Rattle.std.specs.Prelude.{◌≡◌, ℕ, Bool, true, false, None, is_none}
use Rattle.std.specs.FinMap.Entries.{put, find}
use Rattle.sled_nodes.specs.Order.{Key, key_cmp}
use Rattle.sled_nodes.specs.declared.node.Node.{Node}
use Rattle.sled_nodes.specs.declared.node.Data.{Data}
use Rattle.sled_nodes.specs.declared.node.Data.TheVariants.{Leaf, Index}

-- neither merging nor with a merging child
abbrev pub IsOpen : Node → Type 0
IsOpen n = (n.merging ≡ false) × (n.merging_child ≡ None)

abbrev pub IsIndex : Data → Type 0
IsIndex (Leaf es) = ⊥
IsIndex (Index es) = Unit {0}

-- whether it is an index that has no pointer at the key
abbrev pub takes_pointer : Key → Data → Bool
takes_pointer at (Leaf es) = false
takes_pointer at (Index es) = is_none (find key_cmp at es)

-- an index with the pointer in its place
abbrev pub with_pointer : Key → ℕ → Data → Data
with_pointer at pid (Leaf es) = Leaf es
with_pointer at pid (Index es) = Index (put key_cmp at pid es)

abbrev pub posts_as : Key → ℕ → Node → Node → Bool → Type 0
posts_as at pid old new true = (takes_pointer at old.content ≡ true) × (new ≡ record old { content = with_pointer at pid old.content })
posts_as at pid old new false = (takes_pointer at old.content ≡ false) × (new ≡ old)

-- a pointer is put in if the key has none; else the node stays
pub record Posts (at : Key) (pid : ℕ) (old new : Node) (posted : Bool) : Type 0 where
  pub is : posts_as at pid old new posted
