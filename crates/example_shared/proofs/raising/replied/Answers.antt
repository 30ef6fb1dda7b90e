use Rattle.example_shared.proofs.Attempts.{not_swapped}
use Rattle.example_shared.proofs.raising.replied.Goals as goal

pub returns-in_default : goal.returns-in_default
returns-in_default c = not_swapped c.args.reply c.args.number c.in_default.not-Swapped
