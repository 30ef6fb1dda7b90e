-- A call made alone: no other call does a step between its steps.
use Rattle.std.specs.Prelude.{◌≡◌, ◌⊎◌, ℕ, suc, ◌+◌, ◌*◌, ◌<◌, ◌≤◌, Bool, true, Option, Some}
use Rattle.sled_nodes.specs.declared.node.Node.{Node}
use Rattle.sled_store.specs.In.{In}
use Rattle.sled_store.specs.State.{State, Nodes, nodes_of}
use Rattle.sled_store.specs.Store.{Store, now}
use Rattle.sled_model.specs.State.{IsOnKey}
use Rattle.tree_laws.specs.Forest.{Tree, Forest, Place}
use Rattle.tree_laws.specs.Paths.{tree_pages}
use Rattle.tree_laws.specs.Snapshot.{HasForest, snapshot_of}
use Rattle.tree_laws.specs.declared.flight.Stage.{Stage}
use Rattle.tree_laws.specs.declared.flight.Stage.TheVariants.{Root}
use Rattle.sled_tree.specs.Course.{Course, IsAimed}
use Rattle.sled_tree.specs.Follows.{Follows}
use Rattle.sled_tree.specs.Stages.{Knows}
use Rattle.sled_tree.specs.declared.flight.Sequel.TheVariants.{Go}
use Rattle.tree_progress.specs.Steps.{HasHalves}
use Rattle.tree_progress.specs.ToDo.{to_do}

-- Each repair lowers what is left to repair. Between two of them a call reads each page of its tree twice at most, and every repair may
-- bring one page more
abbrev pub alone_steps : State → Tree → ℕ
alone_steps s t = (to_do s t + 1) * (2 * (tree_pages s t + to_do s t) + 4)

-- each page that was in a tree is still there, or is merging
abbrev pub StayInTree : Nodes → Forest → Forest → Type 0
StayInTree nodes w v = (x : Place) (p : ℕ) → In p (w.chain x) → In p (v.chain x) ⊎ ((n : Node) × (nodes p ≡ Some n) × (n.merging ≡ true))

-- A step by which a call goes on, from the stage a to the stage b: it does what its stage is to do. The pages are well formed after it, as
-- the forest v shows, and the call knows then what it needs
pub record GoesOnAlone (numbers : Tree → Option ℕ) (given : ℕ → Bool) (j : Course) (old : Store) (a : Stage) (w : Forest) (new : Store) (b : Stage) (v : Forest) : Type 0 where
  pub follows : Follows j old a (Go b) new
  pub formed : HasForest (snapshot_of new numbers given) v
  pub stays : StayInTree (nodes_of (now new)) w v
  pub knows : Knows (snapshot_of new numbers given) v j b

-- so many of them in a row from the stage `first` on, and nothing between them
pub data MovesAlone (numbers : Tree → Option ℕ) (given : ℕ → Bool) (j : Course) (s : Store) (first : Stage) (w : Forest) : ℕ → Store → Stage → Forest → Type 0 where
  Begins : MovesAlone numbers given j s first w 0 s first w
  Moves : {n : ℕ} {b c : Store} {a e : Stage} {u v : Forest} → MovesAlone numbers given j s first w n b a u → GoesOnAlone numbers given j b a u c e v → MovesAlone numbers given j s first w (suc n) c e v

-- Only a call on a key does steps, and it begins on well-formed pages, half-done splits and merges included: fewer of its steps go on than
-- `alone_steps`
abbrev pub AloneLaw : Type 0
AloneLaw = (numbers : Tree → Option ℕ) (given : ℕ → Bool) (j : Course) (s : Store) (w : Forest) → HasForest (snapshot_of s numbers given) w → numbers j.tree.name ≡ Some j.tree.number → IsOnKey j.call → IsAimed j
    → (n : ℕ) (new : Store) (a : Stage) (v : Forest) → MovesAlone numbers given j s Root w n new a v → n < alone_steps (now s) j.tree.name

-- How many steps a call in flight has left at most, if no other call does one from now on. It remembers pages as they were, and others may
-- have changed them since. So it is soon at the root again, or it changes a page. If it chose a merge while the child was smaller, that one
-- leaves at most 15 more to repair
abbrev pub resumed_steps : State → Tree → ℕ
resumed_steps s t = (to_do s t + 16) * (4 * (tree_pages s t + to_do s t + 16) + 9)

-- Only a call in flight on a key does steps from now on, whatever its stage is and whatever others left half done: at most `resumed_steps`
-- of its steps go on
abbrev pub ResumedLaw : Type 0
ResumedLaw = (numbers : Tree → Option ℕ) (given : ℕ → Bool) (j : Course) (s : Store) (first : Stage) (w : Forest) → HasForest (snapshot_of s numbers given) w → numbers j.tree.name ≡ Some j.tree.number → IsOnKey j.call → Knows (snapshot_of s numbers given) w j first → HasHalves (nodes_of (now s)) first
    → (n : ℕ) (new : Store) (a : Stage) (v : Forest) → MovesAlone numbers given j s first w n new a v → n ≤ resumed_steps (now s) j.tree.name
