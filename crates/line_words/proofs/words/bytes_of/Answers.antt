use Rattle.std.proofs.Common.{length, sym}
use Rattle.std.proofs.lemmas.Bool.{eqb-true}
use Rattle.line_words.proofs.Spelling.{bytes_of-end}
use Rattle.line_words.proofs.words.bytes_of.Goals as goal

pub returns-clause-ok : goal.returns-clause-ok
returns-clause-ok c = bytes_of-end c.args.word.now c.loop-rest.rest.now c.loop-rest.bytes.items (eqb-true (length c.loop-rest.rest.now) 0 (sym c.loop-rest-test.ensures)) c.loop-rest.invariant
