use Rattle.std.proofs.Common.{sym}
use Rattle.line_words.proofs.Lines.{alone-words_of}
use Rattle.line_words.proofs.command.alone.Goals as goal

pub returns-in-Some : goal.returns-in-Some
returns-in-Some c = rw c.in-Some.is (sym (alone-words_of c.args.command c.in-Some.field-0.now))
