use Rattle.std.proofs.Common.{subst, sym}
use Rattle.example_owned.specs.Owned.{IsFlush}
use Rattle.example_owned.specs.theory.Owned.{GoesQuietly, brings_nothing}
use Rattle.example_owned.proofs.Owning.{flush_goes}
use Rattle.example_owned.proofs.owned.settle.Goals as goal

pub returns : goal.returns
returns g c = subst (λ b. GoesQuietly g.P.Pages.store g.P.Pages.flush_number g.M.MergeOperator.meant c.args.db.now (IsFlush b) brings_nothing c.flush-flushed.new.self) (sym c.is_ok.ensures.value) (flush_goes g.P.Pages.store g.P.Pages.flush_number g.M.MergeOperator.meant _ _ c.flush-flushed.result c.flush-flushed.ensures.ok c.flush-flushed.ensures.err)
