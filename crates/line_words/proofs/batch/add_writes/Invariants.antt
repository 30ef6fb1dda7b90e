use Rattle.std.proofs.Common.{◌≡◌, length, Some}
use Rattle.line_words.specs.Words.{words_after}
use Rattle.line_words.specs.Batch.{writes_after}
use Rattle.line_words.proofs.batch.add_writes.Given as goal

-- the writes of the words to come, after those that are made, are those of all words
abbrev pub invariant-loop-rest : goal.invariant-loop-rest
invariant-loop-rest l = writes_after (Some l.batch) (words_after l.rest) ≡ writes_after (Some l.fn.batch) (words_after l.fn.words)

abbrev pub decreases-loop-rest : goal.decreases-loop-rest
decreases-loop-rest l = length (words_after l.rest)
