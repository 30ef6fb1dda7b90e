-- Ranges of keys, and what is within them.
use Rattle.std.specs.Prelude.{Bool, false, not, ◌&&◌, if◌then◌else◌, filter, reverse, List, []}
use Rattle.std.specs.Ordering.{is_lt, is_gt}
use Rattle.std.specs.declared.ops.Bound.{Bound}
use Rattle.std.specs.declared.ops.Bound.TheVariants.{Included, Excluded, Unbounded}
use Rattle.sled_nodes.specs.Order.{Key, key_cmp}
use Rattle.sled_nodes.specs.Among.{is_up_to, is_from}

-- a range of keys: its bounds, and whether it is read backwards, from the greatest key down
pub record Range : Type 0 where
  pub lo : Bound Key
  pub hi : Bound Key
  pub back : Bool

-- the key is within both bounds of the range
abbrev pub is_in_range : Range → Key → Bool
is_in_range r k = is_from r.lo k && is_up_to r.hi k

-- the pairs that a range has, in its direction
abbrev pub pairs_in : Range → List (Key × Key) → List (Key × Key)
pairs_in r pairs = let within = filter (λ e. is_in_range r e.0) pairs in if r.back then (reverse within) else within

-- the start is above the end, or at it if not both are included. No start is the empty key, included
abbrev pub is_reversed : Bound Key → Bound Key → Bool
is_reversed (Included a) (Included b) = is_gt (key_cmp a b)
is_reversed (Included a) (Excluded b) = not (is_lt (key_cmp a b))
is_reversed (Excluded a) (Included b) = not (is_lt (key_cmp a b))
is_reversed (Excluded a) (Excluded b) = not (is_lt (key_cmp a b))
is_reversed Unbounded (Excluded b) = not (is_lt (key_cmp [] b))
is_reversed Unbounded hi = false
is_reversed lo Unbounded = false
