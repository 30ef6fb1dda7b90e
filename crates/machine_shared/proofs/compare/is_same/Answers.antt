use Rattle.std.proofs.Common.{◌∙◌, sym}
use Rattle.machine_shared.proofs.Equal.{mades_same}
use Rattle.machine_shared.proofs.compare.is_same.Goals as goal

pub returns : goal.returns
returns c h = mades_same c.args.a.now c.args.b.now (sym c.eq.ensures ∙ h)
