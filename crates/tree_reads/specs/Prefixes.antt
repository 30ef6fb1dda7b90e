-- Keys that begin with a prefix.
use Rattle.std.specs.Prelude.{◌≡◌, ◌+◌, ◌<◌, ◌&&◌, ℕ, nat_eq, nat_lt, filter, List, [], ◌∷◌, Option, Some, None, if◌then◌else◌}
use Rattle.std.specs.List.{starts_with, AllByRecursion}
use Rattle.std.specs.declared.ops.Bound.{Bound}
use Rattle.std.specs.declared.ops.Bound.TheVariants.{Included, Excluded, Unbounded}
use Rattle.sled_nodes.specs.Order.{Key}
use Rattle.sled_nodes.specs.Among.{is_up_to, is_from}

-- what every byte string is
abbrev pub IsBytes : Key → Type 0
IsBytes bytes = AllByRecursion (λ b. b < 256) bytes

-- a byte before what its rest is raised to; if that is nothing it is raised itself, and 255 is left out
abbrev pub or_raised : ℕ → Option Key → Option Key
or_raised byte (Some rest) = Some (byte ∷ rest)
or_raised byte None = if nat_lt byte 255 then Some ((byte + 1) ∷ []) else None

-- a prefix without its last bytes 255 and with the last byte that is left raised by one, if one is left
abbrev pub raised_key : Key → Option Key
raised_key [] = None
raised_key (byte ∷ rest) = or_raised byte (raised_key rest)

-- below this key, if there is one
abbrev pub below : Option Key → Bound Key
below None = Unbounded
below (Some key) = Excluded key

-- the upper bound of the keys that begin with a prefix
abbrev pub raised : Key → Bound Key
raised prefix = below (raised_key prefix)

-- the pairs whose keys begin with a prefix
abbrev pub pairs_beginning : Key → List (Key × Key) → List (Key × Key)
pairs_beginning prefix pairs = filter (λ e. starts_with nat_eq e.0 prefix) pairs

-- a byte string is from a prefix on and below what it is raised to exactly if it begins with it
abbrev pub PrefixLaw : Type 0
PrefixLaw = (prefix key : Key) → IsBytes key → (is_from (Included prefix) key && is_up_to (raised prefix) key) ≡ starts_with nat_eq key prefix
