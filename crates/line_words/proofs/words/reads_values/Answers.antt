use Rattle.line_words.proofs.Spelling.{read_value-word_of}
use Rattle.line_words.proofs.words.reads_values.Goals as goal

pub returns : goal.returns
returns c = read_value-word_of
