use Rattle.std.proofs.Common.{◌≡◌, ◌&&◌, drop}
use Rattle.std.specs.List.{list_all}
use Rattle.line_words.specs.Words.{is_plain}
use Rattle.line_words.proofs.words.few_plain.Given as goal

-- what is left to look at decides, where all was plain so far
abbrev pub invariant-loop-byte : goal.invariant-loop-byte
invariant-loop-byte l = (l.plain && list_all is_plain (drop l.byte-index l.bytes)) ≡ list_all is_plain l.bytes
