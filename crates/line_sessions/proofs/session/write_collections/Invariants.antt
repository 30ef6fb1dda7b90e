use Rattle.std.proofs.Common.{ℕ, List, Option, drop}
use Rattle.std.specs.List.{flat_map}
use Rattle.line_words.specs.Print.{collection_lines, Prints}
use Rattle.line_sessions.proofs.session.write_collections.Given as goal

-- whoever prints the lines of the collections to come has printed those of all
abbrev pub invariant-loop-tree : goal.invariant-loop-tree
invariant-loop-tree g l = (held : Option (List ℕ)) (gathered : List ℕ) → Prints (g.W.Write.contents l.output) l.out.items held gathered (flat_map (λ c. collection_lines (c.0.items, c.1.items, c.2.items)) (drop l.tree-index l.trees))
    → Prints (g.W.Write.contents l.fn.output) l.fn.out.items held gathered (flat_map (λ c. collection_lines (c.0.items, c.1.items, c.2.items)) l.fn.trees)
