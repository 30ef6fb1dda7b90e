use Rattle.std.proofs.Common.{sym}
use Rattle.line_words.proofs.Lines.{one_of-more}
use Rattle.line_words.proofs.command.one_of.Goals as goal

pub returns-in_default-Some : goal.returns-in_default-Some
returns-in_default-Some c = rw (c.in-Some.is, c.first_word.ensures, c.in_default-Some.is-1) (sym (one_of-more c.first_word.result.0.now c.in_default-Some.field-0-1.now))
