use Rattle.std.proofs.Common.{◌≡◌, ◌-◌, true, take}
use Rattle.std.specs.List.{list_all}
use Rattle.line_words.specs.Words.{is_plain}
use Rattle.line_words.proofs.words.all_plain.Given as goal

abbrev pub invariant-loop-at : goal.invariant-loop-at
invariant-loop-at l = list_all is_plain (take l.at l.bytes) ≡ true

abbrev pub decreases-loop-at : goal.decreases-loop-at
decreases-loop-at l = l.last - l.at
