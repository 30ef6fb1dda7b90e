-- Of Words, for proofs. Words: how the byte strings, the numbers and the words themselves are written in a line.
use Rattle.std.specs.Prelude.{◌≡◌, ℕ, ◌<◌, List, length, Option, Some, None, MatchOption}
use Rattle.std.specs.Borrow.{Bor}
use Rattle.line_words.specs.Words.{and_then, bytes_of}

-- the word begins with this byte, and the rest spells the others; or it begins with none
abbrev pub BeginsWith : List ℕ → Option (ℕ × Bor (List ℕ)) → Type 0
BeginsWith word first = MatchOption first (0 < length word → bytes_of word ≡ None)
    (λ f. (bytes_of word ≡ and_then (Some f.0) (bytes_of f.1.now)) × (length f.1.now < length word))
