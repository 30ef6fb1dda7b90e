-- An index: a tree whose keys are a number and a text.
use Rattle.std.specs.Prelude.{◌≡◌, ◌↔◌, ℕ, ◌<◌, ◌^◌, [], ◌∷◌}
use Rattle.sled_store.specs.In.{In}
use Rattle.sled_nodes.specs.Order.{Key}
use Rattle.sled_model.specs.Maps.{Map}
use Rattle.tree_reads.specs.Prefixes.{pairs_beginning}
use Rattle.ordered_keys.specs.Keys.{spelled}
use Rattle.ordered_keys.specs.declared.part.Part.TheVariants.{Number, Text}

-- the pair's key is this number and some text
pub record IsUnder (number : ℕ) (entry : Key × Key) : Type 0 where
  pub text : Key
  pub is : entry.0 ≡ spelled (Number number ∷ Text text ∷ [])

-- each key of the map is a number of 64 bits and a text
abbrev pub IsIndex : Map → Type 0
IsIndex map = (entry : Key × Key) → In entry map → (number : ℕ) × (number < 2 ^ 64) × IsUnder number entry

-- the pairs of the map whose keys begin with the bytes of the number, in their order; of an index, all its entries under the
-- number and no others
pub record FindsUnder (number : ℕ) (map found : Map) : Type 0 where
  pub are : found ≡ pairs_beginning (spelled (Number number ∷ [])) map
  pub entries : IsIndex map → (entry : Key × Key) → In entry found ↔ (In entry map × IsUnder number entry)
