-- The same function but at one place.
use Rattle.std.specs.Prelude.{ℕ, nat_eq, if◌then◌else◌}
use Rattle.std.specs.Str.{bytes_eq}
use Rattle.sled_nodes.specs.Order.{Key}

-- f, but a at the number p
abbrev pub put_at : {X : Type 0} → (ℕ → X) → ℕ → X → ℕ → X
put_at f p a q = if nat_eq q p then a else f q

-- f, but a at the name
abbrev pub put_name : {X : Type 0} → (Key → X) → Key → X → Key → X
put_name f name a q = if bytes_eq q name then a else f q
