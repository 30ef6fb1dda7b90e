-- What a call in flight knows of the pages, by its stage.
use Rattle.std.specs.Prelude.{◌≡◌, None}
use Rattle.sled_model.specs.State.{IsOnKey}
use Rattle.tree_laws.specs.Forest.{Forest}
use Rattle.tree_laws.specs.Snapshot.{Snapshot}
use Rattle.tree_laws.specs.Stages.{IsStage}
use Rattle.tree_laws.specs.declared.flight.Stage.{Stage}
use Rattle.tree_laws.specs.declared.flight.Stage.TheVariants as stage
use Rattle.sled_tree.specs.Change.{reply_at}
use Rattle.sled_tree.specs.Course.{Course, IsAimed}

-- the call is no scan that has its leaf
abbrev pub IsOnItsWay : Stage → Type 0
IsOnItsWay (stage.Give a) = ⊥
IsOnItsWay other = Unit {0}

-- a call that is to link its change at a leaf was not decided by its read, and one that gives the pairs of a leaf is a scan
abbrev pub changes_at : Course → Stage → Type 0
changes_at j (stage.Act v) = reply_at j.call v.node.content ≡ None
changes_at j (stage.Give a) = IsOnKey j.call → ⊥
changes_at j other = Unit {0}

-- what a call knows at its stage; and that a call on a key aims at it
abbrev pub Knows : Snapshot → Forest → Course → Stage → Type 0
Knows m w j a = IsStage m w j.tree.name j.tree.number j.aim a × changes_at j a × IsAimed j
