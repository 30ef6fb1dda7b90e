-- What a step of a call in flight does to what is left to repair.
use Rattle.std.specs.Prelude.{◌≡◌, ℕ, ◌<◌, ◌⊎◌, Bool, Option, Some}
use Rattle.sled_nodes.specs.Halves.{left_half, right_half}
use Rattle.sled_nodes.specs.Node.{count}
use Rattle.sled_nodes.specs.declared.node.Node.{Node}
use Rattle.sled_store.specs.In.{In}
use Rattle.sled_store.specs.State.{State, Nodes, nodes_of}
use Rattle.sled_store.specs.Store.{Store, now}
use Rattle.tree_laws.specs.Forest.{Tree, Forest}
use Rattle.tree_laws.specs.Snapshot.{HasForest, snapshot_of}
use Rattle.tree_laws.specs.Stages.{IsStage, owned}
use Rattle.tree_laws.specs.declared.flight.Stage.{Stage}
use Rattle.tree_laws.specs.declared.flight.Stage.TheVariants as stage
use Rattle.sled_tree.specs.Course.{Course}
use Rattle.sled_tree.specs.Follows.{Follows}
use Rattle.sled_tree.specs.declared.flight.Sequel.{Sequel}
use Rattle.sled_tree.specs.declared.flight.Sequel.TheVariants.{Go, Decided, Refused}
use Rattle.tree_progress.specs.ToDo.{to_do}
use Rattle.tree_progress.specs.Laws.{Lowers, Raises, Intends}

-- as much is left to repair in every tree as before
abbrev pub Leaves : State → State → Type 0
Leaves old new = (u : Tree) → to_do new u ≡ to_do old u

-- The halves of a page that is to be split are those that a split makes: the page is too long, and the new page has its right half
abbrev pub HasHalves : Nodes → Stage → Type 0
HasHalves nodes (stage.InstallLeft a) = (16 < count a.page.node.content) × (a.left ≡ record (left_half a.page.node) { next = Some a.right }) × (nodes a.right ≡ Some (right_half a.page.node))
HasHalves nodes other = Unit {0}

-- A step leaves what is left to repair as it is, or lowers it. But the link of a change raises it by 2 at most, and an intention puts
-- the weight of a merging child in place of the one that the page had
abbrev pub weighs_as : Nodes → Stage → State → State → Tree → Type 0
weighs_as nodes (stage.Act v) old new t = Raises old new t 2
weighs_as nodes (stage.Intend a) old new t = Leaves old new ⊎ ((child : Node) × (nodes a.child ≡ Some child) × Intends old new t (count child.content))
weighs_as nodes other old new t = Leaves old new ⊎ Lowers old new t 1

pub record StepWeighs (stage : Stage) (old new : State) (t : Tree) : Type 0 where
  pub is : weighs_as (nodes_of old) stage old new t

-- if the pages are well formed, and the call knows at its stage what every call in flight knows there
abbrev pub StepLaw : Type 0
StepLaw = (j : Course) (old new : Store) (numbers : Tree → Option ℕ) (given : ℕ → Bool) (w : Forest) (number : ℕ) (stage : Stage) (next : Sequel) → HasForest (snapshot_of old numbers given) w → numbers j.tree.name ≡ Some number
    → IsStage (snapshot_of old numbers given) w j.tree.name number j.aim stage → HasHalves (nodes_of (now old)) stage → Follows j old stage next new → StepWeighs stage (now old) (now new) j.tree.name

-- .. of the stage that comes next
abbrev pub NextHasHalves : Nodes → Sequel → Type 0
NextHasHalves nodes (Go stage) = HasHalves nodes stage
NextHasHalves nodes (Decided reply) = Unit {0}
NextHasHalves nodes (Refused e) = Unit {0}

-- A call in flight has such halves whenever it has any: it begins at the root and has none, each of its steps gives the next stage such
-- halves, and what leaves its own pages as they are keeps them
pub record HalvesLaw : Type 0 where
  pub begins : (nodes : Nodes) → HasHalves nodes stage.Root
  pub steps : (j : Course) (old new : Store) (stage : Stage) (next : Sequel) → Follows j old stage next new → NextHasHalves (nodes_of (now new)) next
  pub stays : (stage : Stage) (old new : State) → ((q : ℕ) → In q (owned stage) → new.pages q ≡ old.pages q) → HasHalves (nodes_of old) stage → HasHalves (nodes_of new) stage
