-- Steps of several calls in flight, in whatever turn.
use Rattle.std.specs.Prelude.{◌≡◌, ◌≢◌, ℕ, suc, ◌≤◌, Bool, true, false, List, [], ◌∷◌, ◌++◌, Option, Some}
use Rattle.std.specs.declared.ops.Bound.{Bound}
use Rattle.std.specs.declared.ops.Bound.TheVariants.{Included, Excluded}
use Rattle.sled_nodes.specs.Among.{is_up_to}
use Rattle.sled_nodes.specs.Order.{Key}
use Rattle.sled_nodes.specs.Ranges.{Range}
use Rattle.sled_nodes.specs.declared.node.Node.{Node}
use Rattle.sled_store.specs.In.{In}
use Rattle.sled_store.specs.State.{nodes_of}
use Rattle.sled_store.specs.Store.{Store, now}
use Rattle.sled_model.specs.State.{range_of}
use Rattle.tree_laws.specs.Forest.{Tree, Forest}
use Rattle.tree_laws.specs.Snapshot.{HasForest, snapshot_of}
use Rattle.tree_laws.specs.declared.flight.Giving.{Giving}
use Rattle.tree_laws.specs.declared.flight.Stage.{Stage}
use Rattle.tree_laws.specs.declared.flight.Stage.TheVariants.{Root, Give}
use Rattle.sled_tree.specs.Course.{Course}
use Rattle.sled_tree.specs.Stages.{Knows}
use Rattle.tree_progress.specs.Alone.{GoesOnAlone}
use Rattle.tree_progress.specs.Steps.{HasHalves}
use Rattle.move_laws.specs.Meant.{Flight, flight, all_left, moves_bound}

-- A call in flight, on a key or a scan, that knows at its stage what every call knows there. A split that it has begun has the halves that
-- a split makes
pub record IsUnderWay (numbers : Tree → Option ℕ) (given : ℕ → Bool) (s : Store) (w : Forest) (f : Flight) : Type 0 where
  pub named : numbers f.course.tree.name ≡ Some f.course.tree.number
  pub knows : Knows (snapshot_of s numbers given) w f.course f.stage
  pub halves : HasHalves (nodes_of (now s)) f.stage

-- A step by which one of several calls goes on. One that reads the root aims at the least key or above it. The others are where they were,
-- and know still what they need
pub record GoesOnAmong (numbers : Tree → Option ℕ) (given : ℕ → Bool) (old : Store) (fs : List Flight) (w : Forest) (new : Store) (gs : List Flight) (v : Forest) : Type 0 where
  pub course : Course
  pub was : Stage
  pub is : Stage
  pub before : List Flight
  pub behind : List Flight
  pub from : fs ≡ before ++ flight course was ∷ behind
  pub to : gs ≡ before ++ flight course is ∷ behind
  pub goes : GoesOnAlone numbers given course old was w new is v
  pub begins : was ≡ Root → is_up_to course.aim [] ≡ true
  pub others : (f : Flight) → In f (before ++ behind) → Knows (snapshot_of new numbers given) v f.course f.stage

-- the place at which a scan goes on after its leaf: at the key at which that ends or, backwards, just below the one at which it begins
abbrev pub bound_behind : Node → Bool → Bound Key
bound_behind n true = Excluded n.lo
bound_behind n false = Included n.hi

-- A scan that has its leaf sets out from the root again, to what is after the leaf. That is no step of its own
pub record SetsOut (fs gs : List Flight) : Type 0 where
  pub course : Course
  pub leaf : Giving
  pub range : Range
  pub scans : range_of course.call ≡ Some range
  pub more : range.back ≡ false → leaf.leaf.node.hi ≢ []
  pub before : List Flight
  pub behind : List Flight
  pub from : fs ≡ before ++ flight course (Give leaf) ∷ behind
  pub to : gs ≡ before ++ flight (record course { aim = bound_behind leaf.leaf.node range.back }) Root ∷ behind

-- so many steps in a row, of whichever call each time
pub data MovesAmong (numbers : Tree → Option ℕ) (given : ℕ → Bool) (s : Store) (fs : List Flight) (w : Forest) : ℕ → Store → List Flight → Forest → Type 0 where
  Begins : MovesAmong numbers given s fs w 0 s fs w
  Moves : {n : ℕ} {b c : Store} {gs hs : List Flight} {u v : Forest} → MovesAmong numbers given s fs w n b gs u → GoesOnAmong numbers given b gs u c hs v → MovesAmong numbers given s fs w (suc n) c hs v
  Turns : {n : ℕ} {b : Store} {gs hs : List Flight} {u : Forest} → MovesAmong numbers given s fs w n b gs u → SetsOut gs hs → MovesAmong numbers given s fs w n b hs u

-- Of calls on keys and scans in flight, however many there are, whatever their stages and whatever was left half done, no more steps go on
-- in a row than follows from the pages, whichever call does each of them
abbrev pub AmongLaw : Type 0
AmongLaw = (numbers : Tree → Option ℕ) (given : ℕ → Bool) (s : Store) (fs : List Flight) (w : Forest) → HasForest (snapshot_of s numbers given) w → ((f : Flight) → In f fs → IsUnderWay numbers given s w f)
    → (n : ℕ) (new : Store) (gs : List Flight) (v : Forest) → MovesAmong numbers given s fs w n new gs v → n ≤ moves_bound (now s) fs

-- What such a step leaves: the calls may have no more to repair than before, and each of them knows still what it needs
pub record LeavesAmong (numbers : Tree → Option ℕ) (given : ℕ → Bool) (old : Store) (fs : List Flight) (new : Store) (gs : List Flight) (v : Forest) : Type 0 where
  pub left : all_left (now new) gs ≤ all_left (now old) fs
  pub under : (f : Flight) → In f gs → IsUnderWay numbers given new v f

-- A step of any of several calls leaves this
abbrev pub LeftLaw : Type 0
LeftLaw = (numbers : Tree → Option ℕ) (given : ℕ → Bool) (old : Store) (fs : List Flight) (w : Forest) → HasForest (snapshot_of old numbers given) w → ((f : Flight) → In f fs → IsUnderWay numbers given old w f)
    → (new : Store) (gs : List Flight) (v : Forest) → GoesOnAmong numbers given old fs w new gs v → LeavesAmong numbers given old fs new gs v
