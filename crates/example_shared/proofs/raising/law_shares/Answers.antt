use Rattle.example_shared.proofs.Sharing.{shares_law}
use Rattle.example_shared.proofs.raising.law_shares.Goals as goal

pub returns : goal.returns
returns c = shares_law
