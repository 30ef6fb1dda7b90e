-- Of Parts, for proofs. A page as the node that it stands for, and what is below it.
use Rattle.std.specs.Prelude.{◌≡◌, []}
use Rattle.sled_nodes.specs.declared.node.Node.{Node}
use Rattle.sled_pages.specs.declared.memory.linked.Below.{Below}
use Rattle.sled_pages.specs.declared.memory.linked.Below.TheVariants.{Nothing, Joined, Apart}
use Rattle.sled_pages.specs.Parts.{Parts, node_of}

-- the base and the links of a page; if nothing is below it is its base
abbrev pub parts_under : Node → Below → Parts
parts_under n Nothing = (n, [])
parts_under n (Joined p) = p
parts_under n (Apart p) = p

abbrev pub is_joined_as : Node → Below → Type 0
is_joined_as n Nothing = Unit {0}
is_joined_as n (Joined p) = n ≡ node_of p
is_joined_as n (Apart p) = Unit {0}

-- it is the base after the links, unless these are apart
pub record IsJoined (n : Node) (below : Below) : Type 0 where
  pub is : is_joined_as n below

abbrev pub is_ready_as : Node → Below → Type 0
is_ready_as n Nothing = Unit {0}
is_ready_as n (Joined p) = n ≡ node_of p
is_ready_as n (Apart p) = ⊥

-- it is the base after the links, and these are not apart
pub record IsReady (n : Node) (below : Below) : Type 0 where
  pub is : is_ready_as n below
