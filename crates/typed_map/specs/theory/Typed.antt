-- Bounds of values.
use Rattle.std.specs.declared.ops.Bound.{Bound}
use Rattle.std.specs.declared.ops.Bound.TheVariants.{Included, Excluded, Unbounded}
use Rattle.typed_map.specs.Typed.{Spelling}

-- the value at a bound is one, if there is any
abbrev pub bounds_value : {A : Type 0} → Spelling A → Bound A → Type 0
bounds_value s (Included b) = s.is_value b
bounds_value s (Excluded b) = s.is_value b
bounds_value s Unbounded = Unit {0}
