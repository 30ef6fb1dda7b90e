-- Of Keys, for proofs. Keys of several parts, the bytes that spell them, and their order.
use Rattle.std.specs.Prelude.{ℕ, [], ◌∷◌, Option, Some, None}
use Rattle.sled_nodes.specs.Order.{Key}
use Rattle.ordered_keys.specs.Keys.{spelled_byte}

-- one piece of a spelled text: a byte, or the end
abbrev pub spelled_piece : Option ℕ → Key
spelled_piece (Some byte) = spelled_byte byte
spelled_piece None = 0 ∷ 0 ∷ []
