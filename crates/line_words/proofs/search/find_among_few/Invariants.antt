use Rattle.line_words.specs.Search.{Lacks}
use Rattle.line_words.proofs.search.find_among_few.Given as goal

abbrev pub invariant-loop-at : goal.invariant-loop-at
invariant-loop-at l = Lacks l.byte l.bytes l.at
