-- What a call in flight is to do, and what its walk aims at.
use Rattle.std.specs.Prelude.{◌≡◌, true, false, [], Some}
use Rattle.std.specs.declared.ops.Bound.{Bound}
use Rattle.std.specs.declared.ops.Bound.TheVariants.{Included, Excluded, Unbounded}
use Rattle.sled_nodes.specs.Order.{Key}
use Rattle.sled_model.specs.Answer.{key_of}
use Rattle.sled_nodes.specs.Ranges.{Range}
use Rattle.sled_model.specs.State.{range_of, IsOnKey}
use Rattle.sled_model.specs.declared.call.Call.{Call}
use Rattle.sled_model.specs.declared.call.Call.TheVariants.{Scan}
use Rattle.sled_model.specs.declared.tree.Tree.{Tree}
use Rattle.sled_tree.specs.declared.flight.Aim.{Aim}
use Rattle.sled_tree.specs.declared.flight.Aim.TheVariants.{Own, At}
use Rattle.sled_tree.specs.declared.flight.InFlight.{InFlight}
use Rattle.sled_tree.specs.declared.flight.Job.{Job}

-- the key that a range begins at, from the least key up
abbrev pub start_of : Bound Key → Key
start_of (Included k) = k
start_of (Excluded k) = k
start_of Unbounded = []

-- what the first walk of a call aims at: a call on a key aims at its key, and a scan at the end of its range at which it begins
abbrev pub first_aim : Call → Bound Key
first_aim (Scan lo hi false) = Included (start_of lo)
first_aim (Scan lo hi true) = hi
first_aim call = Included (key_of call)

-- the bound that the walk of a call aims at
abbrev pub aim_of : Job → Aim → Bound Key
aim_of j Own = first_aim j.call
aim_of j (At bound) = bound

-- the call, its tree, and what its walk aims at
pub record Course : Type 0 where
  pub tree : Tree
  pub call : Call
  pub aim : Bound Key

abbrev pub course : Job → Aim → Course
course j aim = record { tree = j.tree; call = j.call; aim = aim_of j aim }

-- the same of a call in flight
abbrev pub course_of : InFlight → Course
course_of f = course f.job f.aim

-- a call on a key aims at it, and a scan from the least key up at a key
pub record IsAimed (j : Course) : Type 0 where
  pub key : IsOnKey j.call → j.aim ≡ Included (key_of j.call)
  pub rises : (range : Range) → range_of j.call ≡ Some range → range.back ≡ false → (k : Key) × (j.aim ≡ Included k)
