use Rattle.std.proofs.Common.{subst, arith}
use Rattle.sled_once.specs.Stages.{EndsAs}
use Rattle.sled_once.specs.declared.stage.End.{End}
use Rattle.sled_once.proofs.Ending.{cut_behind}
use Rattle.sled_once.proofs.holding.end_cut.Goals as goal

pub returns-then-gate-len : goal.returns-then-gate-len
returns-then-gate-len c file ends = cut_behind c.in-Closed.gate c.args.len file (subst (λ (end : End). EndsAs end file) c.in-Closed.is ends) (omega (arith, c.if-gate-len.true))
