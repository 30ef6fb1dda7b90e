use Rattle.std.proofs.Common.{◌≡◌, ◌++◌, length, option_map}
use Rattle.line_words.specs.Words.{bytes_of}
use Rattle.line_words.proofs.words.bytes_of.Given as goal

abbrev pub invariant-loop-rest : goal.invariant-loop-rest
invariant-loop-rest l = option_map (λ others. l.bytes.items ++ others) (bytes_of l.rest) ≡ bytes_of l.fn.word

abbrev pub decreases-loop-rest : goal.decreases-loop-rest
decreases-loop-rest l = length l.rest
