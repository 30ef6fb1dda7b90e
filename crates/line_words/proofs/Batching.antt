-- Batches: the writes of words.
use Rattle.std.proofs.Common.{◌≡◌, ℕ, Bool, List, ◌∷◌, Option, Some, None, if◌then◌else◌, ap, ◌∙◌}
use Rattle.std.specs.Borrow.{Bor}
use Rattle.sled_batch.specs.Batch.{Writes}
use Rattle.line_words.specs.Words.{words_of, words_after, read_word, read_value}
use Rattle.line_words.specs.Batch.{write_after, writes_after}

-- the first two words are a key and its value
pub after_two : (before after : Writes) (added : Bool) (rest behind last : Option (Bor (List ℕ))) (line others : Bor (List ℕ)) (key value : List ℕ)
    → rest ≡ Some line → words_of line.now ≡ key ∷ words_after behind → behind ≡ Some others → words_of others.now ≡ value ∷ words_after last
    → write_after before (read_word key) (read_value value) ≡ (if added then Some after else None)
    → writes_after (Some before) (words_after rest) ≡ writes_after (if added then Some after else None) (words_after last)
after_two before after added rest behind last line others key value here first there second one =
    ap (λ r. writes_after (Some before) (words_after r)) here
    ∙ (ap (writes_after (Some before)) (first ∙ ap (λ l. key ∷ l) (ap words_after there ∙ second))
    ∙ ap (λ o. writes_after o (words_after last)) one)
