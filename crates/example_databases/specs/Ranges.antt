-- What the removal of the keys within two bounds leaves.
use Rattle.std.specs.Prelude.{◌≡◌, ◌&&◌, ℕ, not, filter, length, option_map, Some, if◌then◌else◌}
use Rattle.std.specs.Str.{bytes_eq}
use Rattle.std.specs.declared.ops.Bound.{Bound}
use Rattle.sled_nodes.specs.Among.{is_from, is_up_to}
use Rattle.sled_nodes.specs.Order.{Key}
use Rattle.sled_model.specs.Maps.{Map, Maps}
use Rattle.tree_reads.specs.Ranges.{pairs_within}

-- the pairs whose keys are not within both bounds
abbrev pub pairs_outside : Bound Key → Bound Key → Map → Map
pairs_outside lo hi map = filter (λ e. not (is_from lo e.0 && is_up_to hi e.0)) map

-- the maps, of which one has just its pairs outside the bounds
abbrev pub outside_alone : Key → Bound Key → Bound Key → Maps → Maps
outside_alone tree lo hi maps name = if bytes_eq name tree then option_map (pairs_outside lo hi) (maps name) else maps name

-- the tree is there, and so many of its pairs are within both bounds
pub record IsCountWithin (tree : Key) (lo hi : Bound Key) (maps : Maps) (count : ℕ) : Type 0 where
  pub map : Map
  pub there : maps tree ≡ Some map
  pub is : count ≡ length (pairs_within lo hi map)
