use Rattle.files_once.proofs.Alike.{read_lasting}
use Rattle.files_once.proofs.opening.law_mended_lasts.Goals as goal

pub returns : goal.returns
returns c asked limits s first second one two read first_mended second_mended = read_lasting first second one two first_mended second_mended asked limits s read
