use Rattle.std.proofs.Common.{subst}
use Rattle.line_words.specs.Print.{Prints}
use Rattle.line_sessions.proofs.Printing.{prints_then, prints_onto, dumped}
use Rattle.line_sessions.proofs.session.write_trees.Goals as goal

pub returns : goal.returns
returns g c = subst (λ text. Prints (g.W.Write.contents c.args.output.now) c.args.out.now.items (g.W.Write.contents c.write_collections.new.output) c.push_end.new.out.items text)
    (dumped c.args.trees.now (λ t. (t.0.items, t.1.items, t.2.items)) c.count_pairs.result c.count_pairs.ensures)
    (prints_then _ _ _ _ _ _ _ _ c.in_ok-write_collections.ensures (prints_onto _ _ _ _ c.in_ok-push_end.ensures.ok))
