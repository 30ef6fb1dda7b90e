use Rattle.std.proofs.Common.{subst}
use Rattle.machine_shared.specs.Gathered.{EachOnceBehind}
use Rattle.machine_shared.specs.Values.{SharedValue}
use Rattle.machine_shared.proofs.Once.{of_some}
use Rattle.machine_shared.proofs.db.Db.take_if.Goals as goal

pub returns-clause-numbers : goal.returns-clause-numbers
returns-clause-numbers g c = of_some c.take_agreeing.result (subst (λ (v : SharedValue). EachOnceBehind v.before v.given c.args.handles.now) c.self.view_is (c.are_all.ensures.once c.if-not-are_all.false))
