use Rattle.line_words.proofs.Shortest.{shortest}
use Rattle.line_words.proofs.words.prints_shortest.Goals as goal

pub returns : goal.returns
returns c = shortest
