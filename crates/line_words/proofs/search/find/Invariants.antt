use Rattle.std.proofs.Common.{◌-◌}
use Rattle.line_words.specs.Search.{Lacks}
use Rattle.line_words.proofs.search.find.Given as goal

abbrev pub invariant-loop-at : goal.invariant-loop-at
invariant-loop-at l = Lacks l.byte l.bytes l.at

abbrev pub decreases-loop-at : goal.decreases-loop-at
decreases-loop-at l = l.last - l.at
