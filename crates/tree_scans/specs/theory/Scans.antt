-- The range that a scan reads, and its outcome at a leaf.
use Rattle.std.specs.Prelude.{◌≡◌, ◌+◌, Bool, true, false, List, [], ◌∷◌, Some}
use Rattle.std.specs.declared.ops.Bound.{Bound}
use Rattle.sled_nodes.specs.Order.{Key}
use Rattle.sled_nodes.specs.Ranges.{Range}
use Rattle.sled_nodes.specs.declared.node.Node.{Node}
use Rattle.sled_model.specs.State.{range_of}
use Rattle.sled_model.specs.Scan.{is_read}
use Rattle.sled_model.specs.declared.call.Call.{Call}
use Rattle.tree_laws.specs.declared.flight.Giving.{Giving}
use Rattle.tree_laws.specs.declared.flight.Stage.TheVariants as stage
use Rattle.sled_tree.specs.declared.flight.Aim.{Aim}
use Rattle.tree_scans.specs.Scans.{range_from, range_behind, waiting_at, aim_behind}
use Rattle.tree_scans.specs.declared.scan.AtLeaf.{AtLeaf}
use Rattle.tree_scans.specs.declared.scan.AtLeaf.TheVariants.{Pair, End, GoesOn}

abbrev pub range_between : Bound Key → Bound Key → Bool → Range
range_between lo hi back = record { lo = lo; hi = hi; back = back }

-- the scan reads this range from where it goes on
pub record IsRangeOf (call : Call) (aim : Aim) (from : Range) : Type 0 where
  pub range : Range
  pub has : range_of call ≡ Some range
  pub is : range_from aim range ≡ from

-- what is behind the leaf says whether the scan ends there or goes on
abbrev pub comes_behind : Node → Range → AtLeaf → Type 0
comes_behind n r (Pair key value) = ⊥
comes_behind n r End = is_read (range_behind n r) ≡ true
comes_behind n r (GoesOn aim) = (is_read (range_behind n r) ≡ false) × (aim ≡ aim_behind n r.back)

pub record ComesBehind (n : Node) (r : Range) (next : AtLeaf) : Type 0 where
  pub is : comes_behind n r next

-- the first pair that waits is taken, or none waits
abbrev pub comes_at : Giving → Giving → Range → AtLeaf → Type 0
comes_at a b r (Pair key value) = (b ≡ record a { given = a.given + 1 }) × (more : List (Key × Key)) × (waiting_at (stage.Give a) r ≡ (key, value) ∷ more)
comes_at a b r next = (b ≡ a) × (waiting_at (stage.Give a) r ≡ []) × ComesBehind a.leaf.node r next

pub record ComesTo (call : Call) (aim : Aim) (a b : Giving) (next : AtLeaf) : Type 0 where
  pub from : Range
  pub range : IsRangeOf call aim from
  pub is : comes_at a b from next
