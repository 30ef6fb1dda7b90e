-- Laws of a line that a reader holds in parts.
use Rattle.std.proofs.Common.{◌≡◌, ◌≢◌, ℕ, List, [], length, All, Option, None, Some, IfSome, true, refl, sym, ◌∙◌}
use Rattle.std.specs.Io.KnownBytes.{Keeps, Consumes, IsAtEnd}
use Rattle.std.specs.Io.BufRead.{take_through, DropsThrough}
use Rattle.std.proofs.BufReadLemmas.{Consumes_through, IsAtEnd-of_take_through}
use Rattle.line_words.specs.theory.Input.{CopiesPart}

-- the last part makes the line whole
pub ends_line : (before here after : Option (List ℕ)) (line new : List ℕ) → Consumes before here line → All (λ b. b ≢ 10) line → CopiesPart here after line new true → IfSome before (λ xs. new ≡ take_through 10 xs) × DropsThrough before after 10
ends_line before here after line new taken all last = rw last.copied (Consumes_through 10 before here after line last.part taken all last.taken last.is.0 last.is.1 (last.none refl))

at_end_before : (before here : Option (List ℕ)) → Keeps before here → IsAtEnd here → IsAtEnd before
at_end_before None here keeps end = tt
at_end_before (Some xs) None keeps end = absurd keeps
at_end_before (Some xs) (Some ys) keeps end = sym keeps ∙ end

-- a line is empty at the end alone
pub empty_at_end : (before here : Option (List ℕ)) (line : List ℕ) → Keeps before here → IfSome here (λ xs. line ≡ take_through 10 xs) → length line ≡ 0 → IsAtEnd before
empty_at_end before here line keeps bytes none = at_end_before before here keeps (IsAtEnd-of_take_through 10 here [] line bytes none)
