-- Of Ranges, for proofs. The pairs of a tree within two bounds.
use Rattle.std.specs.Prelude.{◌≡◌, List, [], ◌∷◌, ◌++◌, Option, Some, None, Ok, Err, Result}
use Rattle.std.specs.declared.ops.Bound.{Bound}
use Rattle.sled_nodes.specs.Order.{Key}
use Rattle.sled_nodes.specs.declared.error.Error.{Error}
use Rattle.tree_reads.specs.Ranges.{pairs_within}

-- what is shown of the pair, if one is given
abbrev pub shown_of : {A : Type 0} → (Key × Key → A) → Option (Result (Key × Key) Error) → Option (Result A Error)
shown_of shows None = None
shown_of shows (Some (Ok p)) = Some (Ok (shows p))
shown_of shows (Some (Err e)) = Some (Err e)

-- one search for the next pair of a range, from the front: none, or the first, and the lower bound goes on to its key
abbrev pub advances : List (Key × Key) → Bound Key → Bound Key → Option (Key × Key) → Bound Key → Type 0
advances all lo hi None new = (pairs_within lo hi all ≡ []) × (new ≡ lo)
advances all lo hi (Some p) new = (pairs_within lo hi all ≡ p ∷ pairs_within new hi all)

pub record Advances (all : List (Key × Key)) (lo hi : Bound Key) (found : Option (Key × Key)) (new : Bound Key) : Type 0 where
  pub is : advances all lo hi found new

-- and from the back
abbrev pub retreats : List (Key × Key) → Bound Key → Bound Key → Option (Key × Key) → Bound Key → Type 0
retreats all lo hi None new = (pairs_within lo hi all ≡ []) × (new ≡ hi)
retreats all lo hi (Some p) new = (pairs_within lo hi all ≡ pairs_within lo new all ++ p ∷ [])

pub record Retreats (all : List (Key × Key)) (lo hi : Bound Key) (found : Option (Key × Key)) (new : Bound Key) : Type 0 where
  pub is : retreats all lo hi found new
