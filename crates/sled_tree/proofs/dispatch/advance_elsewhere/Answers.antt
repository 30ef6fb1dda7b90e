use Rattle.std.proofs.Common.{refl}
use Rattle.sled_tree.proofs.Facts.{goes_on}
use Rattle.sled_tree.proofs.Passing.{passes_elsewhere, passes_further}
use Rattle.sled_tree.proofs.dispatch.advance_elsewhere.Goals as goal

pub returns-in-Go-clause-advances : goal.returns-in-Go-clause-advances
returns-in-Go-clause-advances g c = rw c.replace-old.ensures.after (goes_on _ _ _ _ _ _ c.replace-stage.ensures.value c.in-Go.is c.step_elsewhere.ensures.moves)

pub returns-in-Go-clause-passes : goal.returns-in-Go-clause-passes
returns-in-Go-clause-passes g c = rw c.replace-old.ensures.after (passes_further _ _ c.args.flight.now _ _ _ refl c.in-Go.is (passes_elsewhere _ _ _ _ _ c.requires.elsewhere))
