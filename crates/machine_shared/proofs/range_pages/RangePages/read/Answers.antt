use Rattle.std.proofs.Common.{inl, inr}
use Rattle.machine_shared.specs.declared.read.Answer.TheVariants as told
use Rattle.machine_shared.specs.declared.read.Question.TheVariants as asks
use Rattle.machine_shared.proofs.UnderLocks.{read_refused, read_told}
use Rattle.machine_shared.proofs.range_pages.RangePages.read.Goals as goal

pub returns-in-Err-read-clause-looks : goal.returns-in-Err-read-clause-looks
returns-in-Err-read-clause-looks g c = inl (inr (read_refused g.P.Pages.store g.M.MergeOperator.meant c.args.self.now.tree (asks.Page c.args.self.now.lo c.args.self.now.hi c.args.self.now.back c.args.self.now.most) (λ it. told.Pairs it) c.args.handle.now c.read.new.self c.in-Ok.question c.in-Err-read.e c.in-Ok.ensures.ok c.in-Err-read.ensures.looks))

pub returns-in-Ok-pass-clause-looks : goal.returns-in-Ok-pass-clause-looks
returns-in-Ok-pass-clause-looks g c = read_told g.P.Pages.store g.M.MergeOperator.meant c.args.self.now.tree (asks.Page c.args.self.now.lo c.args.self.now.hi c.args.self.now.back c.args.self.now.most) (λ it. told.Pairs it) c.args.handle.now c.read.new.self c.in-Ok.question c.in-Ok-read.answer c.pairs_of-pairs.result c.in-Ok.ensures.ok c.pairs_of-pairs.ensures c.in-Ok-read.ensures.looks

pub returns-in-Err-pass-clause-looks : goal.returns-in-Err-pass-clause-looks
returns-in-Err-pass-clause-looks g c = inr (c.in-Err-pass.ensures.err.0, c.pairs_of-pairs.result, read_told g.P.Pages.store g.M.MergeOperator.meant c.args.self.now.tree (asks.Page c.args.self.now.lo c.args.self.now.hi c.args.self.now.back c.args.self.now.most) (λ it. told.Pairs it) c.args.handle.now c.read.new.self c.in-Ok.question c.in-Ok-read.answer c.pairs_of-pairs.result c.in-Ok.ensures.ok c.pairs_of-pairs.ensures c.in-Ok-read.ensures.looks)
