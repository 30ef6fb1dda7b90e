use Rattle.std.proofs.Common.{refl, subst}
use Rattle.sled_path.specs.Path.{OpensIn, usual}
use Rattle.sled_path.proofs.opening.open.Goals as goal

pub returns-in-Ok-clause-ok : goal.returns-in-Ok-clause-ok
returns-in-Ok-clause-ok g c = subst (λ b. OpensIn {M = g.row.M.Denot} usual b c.args.name.now c.in-Ok.db) (c.in-Ok.ensures.locked refl) c.in-Ok.ensures.ok
