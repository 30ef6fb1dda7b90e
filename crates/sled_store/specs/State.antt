-- The pages and the roots at one moment, and what an action does to them.
use Rattle.std.specs.Prelude.{ℕ, true, false, Bool, List, [], ◌∷◌, Option, option_map}
use Rattle.sled_nodes.specs.Order.{Key}
use Rattle.sled_store.specs.Update.{put_at, put_name}
use Rattle.sled_nodes.specs.declared.node.Node.{Node}
use Rattle.sled_store.specs.declared.page.Page.{Page}

-- the pages by number, the roots by name, and whether a group is open
pub record State : Type 0 where
  pub pages : ℕ → Option Page
  pub roots : Key → Option ℕ
  pub in_group : Bool

-- nodes by page number
abbrev pub Nodes : Type 0
Nodes = ℕ → Option Node

-- the pages without their versions
abbrev pub nodes_of : State → Nodes
nodes_of s p = option_map (λ g. g.node) (s.pages p)

-- what an action changes: a page is there with this version and node or is gone, a name has this root or none, a group begins or ends
pub data Action : Type 0 where
  PageBecomes : (pid : ℕ) (page : Option Page) → Action
  RootBecomes : (name : Key) (root : Option ℕ) → Action
  GroupBegins : Action
  GroupEnds : Action

-- the state after an action
abbrev pub after : Action → State → State
after (PageBecomes pid page) s = record s { pages = put_at s.pages pid page }
after (RootBecomes name root) s = record s { roots = put_name s.roots name root }
after GroupBegins s = record s { in_group = true }
after GroupEnds s = record s { in_group = false }

-- the state after actions, the first of them first
abbrev pub after_all : List Action → State → State
after_all [] s = s
after_all (a ∷ actions) s = after_all actions (after a s)
