use Rattle.std.proofs.Common.{refl}
use Rattle.machine_shared.specs.declared.read.Answer.TheVariants as told
use Rattle.machine_shared.specs.declared.read.Question.TheVariants as asks
use Rattle.machine_shared.proofs.UnderLocks.{read_refused, read_told}
use Rattle.machine_shared.proofs.handle.Handle.last.Goals as goal

pub returns-in-Ok-clause-looks : goal.returns-in-Ok-clause-looks
returns-in-Ok-clause-looks g c = read_told g.P.Pages.store g.M.MergeOperator.meant c.args.tree.now asks.Last (λ it. told.Pair it) c.args.self.now c.read.new.self _ c.in-Ok.answer c.pair_of.result refl c.pair_of.ensures c.in-Ok.ensures.looks

pub returns-in-Err-clause-looks : goal.returns-in-Err-clause-looks
returns-in-Err-clause-looks g c = read_refused g.P.Pages.store g.M.MergeOperator.meant c.args.tree.now asks.Last (λ it. told.Pair it) c.args.self.now c.read.new.self asks.Last c.in-Err.e refl c.in-Err.ensures.looks
