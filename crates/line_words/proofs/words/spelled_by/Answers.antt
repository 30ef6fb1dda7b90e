use Rattle.std.proofs.Common.{◌∙◌, ap, sym, Some}
use Rattle.line_words.proofs.Spelling.{bytes_of-whole}
use Rattle.line_words.proofs.words.spelled_by.Goals as goal

pub returns-then-count_plain-word-clause-ok : goal.returns-then-count_plain-word-clause-ok
returns-then-count_plain-word-clause-ok c = ap Some c.in_ok-from_slice.ensures.ok ∙ sym (bytes_of-whole c.args.word.now _ c.count_plain.ensures.plain c.if-count_plain-word.true)
