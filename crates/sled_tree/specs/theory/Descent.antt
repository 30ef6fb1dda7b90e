-- Steps of the walk of a call in flight.
use Rattle.std.specs.Prelude.{◌≡◌, ℕ, ◌≤◌, false, Option, Some, None, Result, Ok, Err}
use Rattle.sled_nodes.specs.Node.{count}
use Rattle.sled_store.specs.Store.{Store, now}
use Rattle.sled_nodes.specs.declared.error.Error.{Error}
use Rattle.sled_store.specs.declared.page.View.{View}
use Rattle.sled_tree.specs.theory.Change.{IsLeaf}
use Rattle.sled_tree.specs.Course.{Course}
use Rattle.sled_tree.specs.Follows.{Follows, FollowsOn, MayMerge, follows_read}
use Rattle.sled_tree.specs.theory.StageAction.{StageAction, AfterPage, FlightStep}
use Rattle.sled_tree.specs.theory.Stages.{IsOffWalk}
use Rattle.sled_tree.specs.Passing.{StepsOnPath}
use Rattle.sled_tree.specs.theory.Passing.{AdvancesOnPath, AdvancesFromPage}
use Rattle.sled_tree.specs.declared.walk.Descent.{Descent}
use Rattle.sled_tree.specs.declared.walk.Descent.TheVariants as descent
use Rattle.sled_tree.specs.declared.flight.InFlight.{InFlight}
use Rattle.sled_tree.specs.declared.flight.Sequel.{Sequel}
use Rattle.sled_tree.specs.declared.flight.Sequel.TheVariants.{Go, Refused}
use Rattle.tree_laws.specs.Snapshot.{LiesUnder}
use Rattle.tree_laws.specs.declared.flight.Stage.{Stage}
use Rattle.tree_laws.specs.declared.flight.Stage.TheVariants as stage
use Rattle.sled_tree.specs.declared.flight.Went.{Went}
use Rattle.tree_laws.specs.declared.flight.Reached.{Reached}
use Rattle.tree_laws.specs.declared.flight.Reached.TheVariants as reached

-- how a stage reaches the page that it reads
abbrev pub way_of : Stage → Reached
way_of (stage.Walk a) = a.reached
way_of other = reached.Root

-- the parent of a page that a walk reached so is to change: the page has no pointer there, or it has few entries and merges
abbrev pub RepairsParent : Reached → ℕ → Type 0
RepairsParent reached.Root n = ⊥
RepairsParent (reached.FirstPointer parent) n = ⊥
RepairsParent (reached.LaterPointer parent) n = MayMerge parent × (n ≤ 3)
RepairsParent (reached.Next parent) n = Unit {0}

-- the page is under the aim, and nothing is to be repaired there
pub record IsClean (j : Course) (by : Reached) (view : View) : Type 0 where
  pub not_merging : view.node.merging ≡ false
  pub free : view.node.merging_child ≡ None
  pub fits : count view.node.content ≤ 16
  pub settled : RepairsParent by (count view.node.content) → ⊥
  pub under : LiesUnder j.aim view.node

-- something is to be repaired at the page, or it is not under the aim: if nothing else is to be repaired, the parent is to change
pub record NeedsRepair (j : Course) (by : Reached) (view : View) : Type 0 where
  pub is : view.node.merging ≡ false → view.node.merging_child ≡ None → count view.node.content ≤ 16 → LiesUnder j.aim view.node
      → RepairsParent by (count view.node.content)

-- the stage reads this page, and what comes of the page is what comes of the stage
pub record Meets (s : Store) (j : Course) (a : Stage) (view : View) : Type 0 where
  pub moves : (next : Sequel) → AfterPage j view (way_of a) next → StageAction j s a next s
  pub passes : (next : Sequel) → AdvancesFromPage j view (way_of a) next → AdvancesOnPath j (now s) a next (now s)
  pub follows : (next : Sequel) → follows_read j view (way_of a) next → Follows j s a next s

-- this comes of the stage, which changes nothing
pub record Leads (s : Store) (j : Course) (a : Stage) (next : Sequel) : Type 0 where
  pub moves : StageAction j s a next s
  pub passes : AdvancesOnPath j (now s) a next (now s)
  pub follows : Follows j s a next s

-- what the stage reads
abbrev pub met_as : Store → Course → Stage → Result (Option View) Error → Type 0
met_as s j a (Ok None) = Leads s j a (Go stage.Root)
met_as s j a (Ok (Some view)) = Meets s j a view
met_as s j a (Err e) = Leads s j a (Refused e)

abbrev pub descends_as : Store → Course → Stage → Descent → Stage → Type 0
descends_as s j a descent.None b = (b ≡ a) × IsOffWalk a
descends_as s j a descent.Further b = Leads s j a (Go b)
descends_as s j a (descent.Leaf view) b = (b ≡ a) × IsLeaf view.node.content × IsClean j (way_of a) view × Meets s j a view
descends_as s j a (descent.Unclean view) b = (b ≡ a) × NeedsRepair j (way_of a) view × Meets s j a view
descends_as s j a descent.Lost b = Leads s j a (Go stage.Root)
descends_as s j a (descent.Refused e) b = Leads s j a (Refused e)

-- a step that reads a page, up to what comes next; or the stage stays, and its leaf may have been read, or a page at which something is to
-- be repaired or which is not under the aim
pub record Descends (s : Store) (j : Course) (a : Stage) (d : Descent) (b : Stage) : Type 0 where
  pub is : descends_as s j a d b

-- a step that reads
pub record Settles (s : Store) (f : InFlight) (went : Went) (g : InFlight) : Type 0 where
  pub advances : FlightStep s f went s g
  pub passes : StepsOnPath (now s) f went (now s) g
  pub follows : FollowsOn s f went s g
