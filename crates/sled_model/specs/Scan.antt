-- What a scan has still to read, and how it goes on.
use Rattle.std.specs.Prelude.{◌≡◌, ◌||◌, Bool, true, false, List, [], Option, Some, None}
use Rattle.sled_nodes.specs.Order.{Key, Below}
use Rattle.sled_nodes.specs.Ranges.{Range, is_in_range, pairs_in, is_reversed}
use Rattle.sled_model.specs.Maps.{Map}

-- the key is within the range that is left to read, if one is
abbrev pub is_in_rest : Option Range → Key → Bool
is_in_rest None k = false
is_in_rest (Some r) k = is_in_range r k

-- j comes before k in a scan: from the least key up, or backwards from the greatest down
abbrev pub Before : Bool → Key → Key → Type 0
Before false j k = Below j k
Before true j k = Below k j

-- A beginning of the range, in its direction, is taken: its keys and those of the rest are those of the range, and each of its keys
-- comes before each of the rest
pub record TakesBeginning (range part : Range) (rest : Option Range) : Type 0 where
  pub way : part.back ≡ range.back
  pub way_left : (r : Range) → rest ≡ Some r → r.back ≡ range.back
  pub splits : (k : Key) → is_in_range range k ≡ is_in_range part k || is_in_rest rest k
  pub before : (j k : Key) → is_in_range part j ≡ true → is_in_rest rest k ≡ true → Before range.back j k

-- If no pair waits, a beginning of what is left to read may be read: it is gone then, and its pairs in the map now wait
pub record ReadsPart (map : Map) (waiting : List (Key × Key)) (rest : Option Range) (after : List (Key × Key)) (left : Option Range) : Type 0 where
  pub none : waiting ≡ []
  pub range : Range
  pub had : rest ≡ Some range
  pub part : Range
  pub takes : TakesBeginning range part left
  pub wait : after ≡ pairs_in part map

-- nothing is left to read, or the bounds give nothing
abbrev pub is_read : Option Range → Bool
is_read None = true
is_read (Some r) = is_reversed r.lo r.hi
