use Rattle.line_words.proofs.Numbers.{read_number-decimals}
use Rattle.line_words.proofs.words.reads_decimals.Goals as goal

pub returns : goal.returns
returns c = read_number-decimals
