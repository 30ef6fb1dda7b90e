-- Ids, and how many are set aside.
use Rattle.std.specs.Prelude.{ℕ, ◌+◌, min, nat_lt, if◌then◌else◌}

-- the greatest u64: the greatest id that there can be, and the greatest count
abbrev pub greatest_of_all : ℕ
greatest_of_all = 18446744073709551615

-- the mark above this one: by 4096, or the greatest
abbrev pub raised : ℕ → ℕ
raised mark = min (mark + 4096) greatest_of_all

-- the mark after an id is taken: it is raised if no id above the greatest given is set aside
abbrev pub mark_above : ℕ → ℕ → ℕ
mark_above greatest mark = if nat_lt greatest mark then mark else raised mark
