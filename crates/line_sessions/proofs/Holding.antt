-- Laws of a line that a reader holds whole.
use Rattle.std.proofs.Common.{◌≡◌, ℕ, ◌+◌, ◌<◌, ◌≤◌, ◌==◌, false, List, [], ◌∷◌, length, take, drop, get_or, All, Option, Some, None, IfSome, refl, sym, subst, ap, ◌∙◌, arith, take-take, get_or-take, length-take}
use Rattle.std.specs.Io.{StartsWith}
use Rattle.std.specs.Io.KnownBytes.{Keeps}
use Rattle.std.specs.Io.BufRead.{DropsConsumable}
use Rattle.std.specs.List.{slice_split}
use Rattle.std.proofs.lemmas.List.Splits.{length-slice_split}
use Rattle.line_words.specs.declared.command.Command.{Command}
use Rattle.line_words.specs.Command.{command_of}
use Rattle.line_sessions.specs.Serve.{without_last, lines_of}
use Rattle.line_words.specs.Search.{IsFirst}
use Rattle.line_sessions.specs.theory.Serve.{BeginsSo}
use Rattle.line_words.proofs.Lines.{first_part}
use Rattle.line_words.proofs.Searching.{lacking}

more_parts : (part : List ℕ) (parts : List (List ℕ)) → 0 < length parts → without_last (part ∷ parts) ≡ part ∷ without_last parts
more_parts part [] some = absurd (omega arith)
more_parts part (next ∷ parts) some = refl

-- the first end of a line ends the first line
ended_line : (text : List ℕ) (at : ℕ) → at < length text → get_or text at 0 ≡ 10 → All (λ b. (b == 10) ≡ false) (take at text) → lines_of text ≡ take at text ∷ lines_of (drop (at + 1) text)
ended_line text at inside stands before =
    ap without_last (first_part 10 text at inside stands before)
    ∙ more_parts (take at text) (slice_split (λ b. b == 10) (drop (at + 1) text)) (omega (arith, length-slice_split (λ b. b == 10) (drop (at + 1) text)))

-- what stands first in what is shown of a text stands first in the text
shown_line : (text shown : List ℕ) (at : ℕ) → StartsWith text shown → IsFirst 10 shown at → (lines_of text ≡ take at shown ∷ lines_of (drop (at + 1) text)) × (at < length text)
shown_line text shown at starts first =
    let within = first.within in
    let long : length shown ≤ length text = omega (arith, length-take (length shown) text, ap length starts) in
    let front : take at text ≡ take at shown = subst (λ l. take at text ≡ take at l) starts (sym (take-take at (length shown) text (omega arith))) in
    let stands : get_or text at 0 ≡ 10 = sym (get_or-take (length shown) text at 0 within) ∙ (ap (λ l. get_or l at 0) starts ∙ first.stands) in
    let before : All (λ b. (b == 10) ≡ false) (take at text) = subst (All (λ b. (b == 10) ≡ false)) (sym front) (lacking 10 shown at first.before) in
    (subst (λ l. lines_of text ≡ l ∷ lines_of (drop (at + 1) text)) front (ended_line text at (omega arith) stands before), omega arith)

may_drop : (limit : Option ℕ) (shown at : ℕ) → IfSome limit (λ n. shown ≤ n) → at < shown → IfSome limit (λ n. at + 1 ≤ n)
may_drop None shown at all within = tt
may_drop (Some n) shown at all within = omega arith

-- what is shown of what is left has a line, which is parsed and then dropped
pub begins_held : (left between after : Option (List ℕ)) (limit : Option ℕ) (shown : List ℕ) (at : ℕ) (read : Option Command) → IfSome left (λ text. StartsWith text shown) → Keeps left between → IfSome left (λ text. IfSome limit (λ n. length shown ≤ n))
    → DropsConsumable between after limit (at + 1) → IsFirst 10 shown at → command_of (take at shown) ≡ read → IfSome left (λ text. BeginsSo text read after)
begins_held None between after limit shown at read starts keeps room drops first reads = tt
begins_held (Some text) None after limit shown at read starts keeps room drops first reads = absurd keeps
begins_held (Some text) (Some same) after limit shown at read starts keeps room drops first reads = record {
  line = take at shown;
  rest = drop (at + 1) text;
  lines = (shown_line text shown at starts first).0;
  reads = reads;
  left = subst (λ t. after ≡ Some (drop (at + 1) t)) keeps (drops (may_drop limit (length shown) at room first.within));
}
