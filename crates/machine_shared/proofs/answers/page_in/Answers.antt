use Rattle.machine_shared.proofs.PageReads.{is_begun}
use Rattle.machine_shared.proofs.answers.page_in.Goals as goal

pub taken-taken-requires-after_bounds : goal.taken-taken-requires-after_bounds
taken-taken-requires-after_bounds g c κs within = is_begun g.P.Pages.store g.M.MergeOperator.meant _ c.args.tree.now _ _ c.in-Ok.pairs c.in-Ok.ensures.ok
