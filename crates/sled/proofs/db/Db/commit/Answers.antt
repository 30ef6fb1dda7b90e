use Rattle.std.proofs.Common.{refl}
use Rattle.sled.proofs.Transacting.{committed, uncommitted}
use Rattle.sled.proofs.db.Db.commit.Goals as goal

pub returns-clause-ok : goal.returns-clause-ok
returns-clause-ok g c = committed g.P.Pages.store g.P.Pages.flush_number g.M.MergeOperator.meant _ _ _ _ _ refl c.args.flushes c.in_default.ensures.ok c.apply_batch.ensures.quiet c.flush_where.result c.flush_where.ensures.ok

pub returns-clause-err : goal.returns-clause-err
returns-clause-err g c = uncommitted g.P.Pages.store g.P.Pages.flush_number g.M.MergeOperator.meant _ _ _ _ _ refl c.args.flushes c.in_default.ensures.ok c.apply_batch.ensures.quiet c.flush_where.result c.flush_where.ensures.err
