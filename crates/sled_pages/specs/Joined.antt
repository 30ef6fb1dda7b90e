-- An option of an option.
use Rattle.std.specs.Prelude.{Option, Some, None}

-- what is in it, if both are there
abbrev pub joined : {X : Type 0} → Option (Option X) → Option X
joined None = None
joined (Some o) = o
