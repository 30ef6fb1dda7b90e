-- Words: how the byte strings, the numbers and the words themselves are written in a line.
use Rattle.std.specs.Prelude.{◌≡◌, ◌≤◌, ℕ, ◌+◌, ◌-◌, ◌*◌, ◌/◌, ◌%◌, ◌^◌, ◌<◌, ◌==◌, ◌&&◌, ◌||◌, not, nat_lt, nat_le, Bool, List, [], ◌∷◌, length, decimal, Option, Some, None, IfSome, option_map, if◌then◌else◌}
use Rattle.std.specs.Borrow.{Bor}
use Rattle.std.specs.List.{flat_map, slice_split, AllByRecursion}
use Rattle.std.specs.Str.{bytes_eq, all_ascii_digits}
use Rattle.std.specs.Str.Parse.{digits_value}
use Rattle.sled_nodes.specs.Order.{Key}

-- a byte that stands for itself: from `!` to `~`, but `%`
abbrev pub is_plain : ℕ → Bool
is_plain b = nat_le 33 b && nat_le b 126 && not (b == 37)

-- the hexadecimal digit of a number below 16, in lower case
abbrev pub hex_digit : ℕ → ℕ
hex_digit n = if nat_lt n 10 then 48 + n else 87 + n

-- what a hexadecimal digit counts, in lower case
abbrev pub hex_value : ℕ → Option ℕ
hex_value c =
    if nat_le 48 c && nat_le c 57 then Some (c - 48)
    else if nat_le 97 c && nat_le c 102 then Some (c - 87)
    else None

-- `%` and the two digits of a byte
abbrev pub escape : ℕ → List ℕ
escape b = 37 ∷ hex_digit (b / 16) ∷ hex_digit (b % 16) ∷ []

-- a byte in a word, in the shortest way
abbrev pub spelled : ℕ → List ℕ
spelled b = if is_plain b then b ∷ [] else escape b

-- The word of a byte string, the shortest there is. The word `-` is none, and no word is empty
abbrev pub printed : Key → List ℕ
printed bytes =
    if bytes_eq bytes [] then 37 ∷ []
    else if bytes_eq bytes (45 ∷ []) then escape 45
    else flat_map spelled bytes

-- the byte, if it stands for itself
abbrev pub plain_byte : ℕ → Option ℕ
plain_byte b = if is_plain b then Some b else None

-- the byte of two digits
abbrev pub byte_of : Option ℕ → Option ℕ → Option ℕ
byte_of (Some high) (Some low) = Some (high * 16 + low)
byte_of high low = None

-- a byte, and then the others, if there are both
abbrev pub and_then : Option ℕ → Option Key → Option Key
and_then (Some b) (Some bytes) = Some (b ∷ bytes)
and_then b bytes = None

-- the bytes that a word spells one by one: `%` begins an escape, and others stand for themselves
unfoldable pub bytes_of : List ℕ → Option Key
bytes_of [] = Some []
bytes_of (b ∷ c ∷ d ∷ rest) =
    if b == 37 then and_then (byte_of (hex_value c) (hex_value d)) (bytes_of rest)
    else and_then (plain_byte b) (bytes_of (c ∷ d ∷ rest))
bytes_of (b ∷ rest) = and_then (plain_byte b) (bytes_of rest)

-- the byte string of a word, if it is one
abbrev pub read_word : List ℕ → Option Key
read_word word =
    if bytes_eq word (37 ∷ []) then Some []
    else if bytes_eq word (45 ∷ []) || bytes_eq word [] then None
    else bytes_of word

-- the value of a word, if it is one: - is none
abbrev pub read_value : List ℕ → Option (Option Key)
read_value word = if bytes_eq word (45 ∷ []) then Some None else option_map (λ bytes. Some bytes) (read_word word)

-- the word of a value: - for none
abbrev pub word_of : Option Key → List ℕ
word_of None = 45 ∷ []
word_of (Some bytes) = printed bytes

-- bytes, and no greater numbers
abbrev pub AreBytes : List ℕ → Type 0
AreBytes bytes = AllByRecursion (λ b. b < 256) bytes

-- the number that digits write, if it fits 64 bits
abbrev pub number_of : List ℕ → Option ℕ
number_of digits = if all_ascii_digits digits && nat_lt (digits_value 10 digits) (2 ^ 64) then Some (digits_value 10 digits) else None

-- the number of a word, if it is one: no word is empty, and no zero is before another digit
abbrev pub read_number : List ℕ → Option ℕ
read_number [] = None
read_number (digit ∷ []) = number_of (digit ∷ [])
read_number (digit ∷ next ∷ others) = if digit == 48 then None else number_of (digit ∷ next ∷ others)

-- the words of a line: each space ends one and begins another
abbrev pub words_of : List ℕ → List (List ℕ)
words_of line = slice_split (λ b. b == 32) line

-- the words of what is after a space, if there is one
abbrev pub words_after : Option (Bor (List ℕ)) → List (List ℕ)
words_after None = []
words_after (Some rest) = words_of rest.now

-- what is printed for a byte string is read as that byte string
abbrev pub ReadsPrinted : Type 0
ReadsPrinted = (bytes : Key) → AreBytes bytes → read_word (printed bytes) ≡ Some bytes

-- what is printed for a value, or none, is read as that value, or none
abbrev pub ReadsValues : Type 0
ReadsValues = (value : Option Key) → IfSome value AreBytes → read_value (word_of value) ≡ Some value

-- a number is read from its digits, and from nothing else
abbrev pub ReadsDecimals : Type 0
ReadsDecimals = ((n : ℕ) → n < 2 ^ 64 → read_number (decimal n) ≡ Some n) × ((word : List ℕ) (n : ℕ) → read_number word ≡ Some n → word ≡ decimal n)

-- no word of a byte string is shorter than the one that is printed, and no other is as short
abbrev pub PrintsShortest : Type 0
PrintsShortest = (word : List ℕ) (bytes : Key) → read_word word ≡ Some bytes → (length (printed bytes) ≤ length word) × (length (printed bytes) ≡ length word → printed bytes ≡ word)
