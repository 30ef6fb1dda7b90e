-- Byte strings and their order.
use Rattle.std.specs.Prelude.{◌≡◌, ℕ, false, List}
use Rattle.std.specs.Ordering.{nat_cmp, is_gt}
use Rattle.std.specs.Cmp.Lexicographic.{slice_cmp}
use Rattle.std.specs.declared.cmp.Ordering.{Ordering}
use Rattle.std.specs.declared.cmp.Ordering.TheVariants.{Less}

-- a byte string: a key, a value, or the name of a tree
abbrev pub Key : Type 0
Key = List ℕ

-- Byte strings are compared at the first byte that differs, and a prefix is less than what it is a prefix of. The
-- definition is shut, so that a proof finds the two keys in a fact about them.
unfoldable pub key_cmp : Key → Key → Ordering
key_cmp = slice_cmp nat_cmp

-- a is less than b
abbrev pub Below : Key → Key → Type 0
Below a b = key_cmp a b ≡ Less

-- a is less than b or is b
abbrev pub UpTo : Key → Key → Type 0
UpTo a b = is_gt (key_cmp a b) ≡ false
