-- What a page weighs by how many entries it has.
--
-- That each change of a repair lowers the sum of these weights rests on the sizes: a page of 17 entries splits, and one of 3 merges, and
-- a half of 17 has more than 3.
use Rattle.std.specs.Prelude.{ℕ, ◌+◌, ◌-◌, ◌*◌, Bool, true, false}

-- nothing from 8 to 10 entries, 2 for each entry below 8, 1 for each above 10
abbrev pub weight : ℕ → ℕ
weight n = 2 * (8 - n) + (n - 10)

-- the first page of a level never merges
abbrev pub first_weight : ℕ → ℕ
first_weight n = n - 10

-- a merging child, up to its cap, and from then on
abbrev pub child_weight : Bool → ℕ → ℕ
child_weight false n = n + 5
child_weight true n = n + 4

-- a page without a pointer weighs 4 more,
abbrev pub pointer_weight : Bool → ℕ
pointer_weight true = 0
pointer_weight false = 4

-- and a merging child that is in no chain any more still has its pointer, which is to go
abbrev pub received_weight : Bool → ℕ
received_weight true = 0
received_weight false = 3
