-- Laws of the words of a line.
use Rattle.std.proofs.Common.{◌≡◌, ℕ, ◌+◌, ◌<◌, ◌≤◌, ◌==◌, false, List, [], ◌∷◌, ◌++◌, length, take, drop, get_or, All, None, refl, ap, ◌∙◌, sym, arith, add-one, take-append-drop}
use Rattle.std.proofs.Math.Seq.{drop-cons}
use Rattle.std.specs.List.{slice_split}
use Rattle.std.proofs.lemmas.List.Splits.{slice_split_at, slice_split_none, length-slice_split}
use Rattle.std.proofs.lemmas.List.{take_all}
use Rattle.std.proofs.lemmas.Bool.{eq-eqb}
use Rattle.line_words.specs.declared.command.Command.{Command}
use Rattle.line_words.specs.Command.{alone, one_of}
use Rattle.line_words.specs.Words.{words_of}

-- the first byte of its kind ends the first part
pub first_part : (byte : ℕ) (text : List ℕ) (at : ℕ) → at < length text → get_or text at 0 ≡ byte → All (λ b. (b == byte) ≡ false) (take at text) → slice_split (λ b. b == byte) text ≡ take at text ∷ slice_split (λ b. b == byte) (drop (at + 1) text)
first_part byte text at inside stands before =
    let rest : drop at text ≡ get_or text at 0 ∷ drop (at + 1) text = rw (add-one, drop-cons text at 0 inside) refl in
    let whole : take at text ++ (get_or text at 0 ∷ drop (at + 1) text) ≡ text = rw (← rest) (take-append-drop at text) in
    sym (ap (slice_split (λ b. b == byte)) whole) ∙ slice_split_at (λ b. b == byte) (take at text) (get_or text at 0) (drop (at + 1) text) before (eq-eqb _ _ stands)

not_alone : (command : Command) (words : List (List ℕ)) → 0 < length words → alone command words ≡ None
not_alone command [] some = absurd (omega arith)
not_alone command (word ∷ words) some = refl

-- a line has a word, if only an empty one
pub alone-words_of : (command : Command) (line : List ℕ) → alone command (words_of line) ≡ None
alone-words_of command line = not_alone command (words_of line) (omega (arith, length-slice_split (λ b. b == 32) line))

-- with no space the line is one word
pub words_of-one : (line : List ℕ) (at : ℕ) → length line ≤ at → All (λ b. (b == 32) ≡ false) (take at line) → words_of line ≡ line ∷ []
words_of-one line at past before =
    let all : take at line ≡ line = take_all at line past in
    slice_split_none (λ b. b == 32) line (rw all at before)

one_of-more_by : (word : List ℕ) (words : List (List ℕ)) → 0 < length words → one_of (word ∷ words) ≡ None
one_of-more_by word [] some = absurd (omega arith)
one_of-more_by word (next ∷ words) some = refl

-- a word and a line are more than one word
pub one_of-more : (word line : List ℕ) → one_of (word ∷ words_of line) ≡ None
one_of-more word line = one_of-more_by word (words_of line) (omega (arith, length-slice_split (λ b. b == 32) line))
