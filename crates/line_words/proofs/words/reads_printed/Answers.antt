use Rattle.line_words.proofs.Spelling.{read_word-printed}
use Rattle.line_words.proofs.words.reads_printed.Goals as goal

pub returns : goal.returns
returns c = read_word-printed
