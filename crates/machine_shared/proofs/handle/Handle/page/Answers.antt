use Rattle.std.proofs.Common.{inr}
use Rattle.std.proofs.lemmas.Result.{err_from_is_err_and}
use Rattle.sled_nodes.specs.Among.{bound_of}
use Rattle.machine_shared.specs.declared.read.Answer.TheVariants as told
use Rattle.machine_shared.specs.declared.read.Question.TheVariants as asks
use Rattle.machine_shared.proofs.UnderLocks.{read_refused, read_told, unread}
use Rattle.machine_shared.proofs.handle.Handle.page.Goals as goal

pub returns-in_err-question-clause-looks : goal.returns-in_err-question-clause-looks
returns-in_err-question-clause-looks g c =
    let is = err_from_is_err_and c.from_residual.result c.from_residual.ensures.1 in
    unread c.from_residual.result is.0 c.in_err-question.field-0.0 c.args.self.now is.1 is.2 c.in_err-question.ensures.err

pub returns-in-Ok-clause-looks : goal.returns-in-Ok-clause-looks
returns-in-Ok-clause-looks g c = inr (read_told g.P.Pages.store g.M.MergeOperator.meant c.args.tree.now (asks.Page (bound_of c.args.lo) (bound_of c.args.hi) c.args.back c.args.most) (λ it. told.Pairs it) c.args.self.now c.read.new.self _ c.in-Ok.answer c.pairs_of.result c.in_ok-question.ensures.ok c.pairs_of.ensures c.in-Ok.ensures.looks)

pub returns-in-Err-clause-looks : goal.returns-in-Err-clause-looks
returns-in-Err-clause-looks g c = inr (read_refused g.P.Pages.store g.M.MergeOperator.meant c.args.tree.now (asks.Page (bound_of c.args.lo) (bound_of c.args.hi) c.args.back c.args.most) (λ it. told.Pairs it) c.args.self.now c.read.new.self _ c.in-Err.e c.in_ok-question.ensures.ok c.in-Err.ensures.looks)
