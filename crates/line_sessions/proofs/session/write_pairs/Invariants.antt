use Rattle.std.proofs.Common.{ℕ, List, Option, drop}
use Rattle.std.specs.List.{flat_map}
use Rattle.line_words.specs.Print.{pair_line, Prints}
use Rattle.line_sessions.proofs.session.write_pairs.Given as goal

-- whoever prints the lines of the pairs to come has printed those of all
abbrev pub invariant-loop-pair : goal.invariant-loop-pair
invariant-loop-pair g l = (held : Option (List ℕ)) (gathered : List ℕ) → Prints (g.W.Write.contents l.output) l.out.items held gathered (flat_map (λ pair. pair_line l.tree pair.0 pair.1) (drop l.pair-index l.pairs))
    → Prints (g.W.Write.contents l.fn.output) l.fn.out.items held gathered (flat_map (λ pair. pair_line l.fn.tree pair.0 pair.1) l.fn.pairs)
