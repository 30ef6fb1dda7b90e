-- The roots of a store, as a list of names with page numbers.
use Rattle.std.specs.Prelude.{ℕ, List, Option}
use Rattle.std.specs.FinMap.Entries.{find}
use Rattle.sled_nodes.specs.Order.{Key, key_cmp}

abbrev pub roots_of : List (Key × ℕ) → Key → Option ℕ
roots_of roots name = find key_cmp name roots
