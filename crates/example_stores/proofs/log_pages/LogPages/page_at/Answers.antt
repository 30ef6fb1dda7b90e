use Rattle.std.proofs.Common.{Some, None, ap}
use Rattle.std.specs.Option.{option_copied}
use Rattle.example_stores.proofs.Logging.{page_here, version_here}
use Rattle.example_stores.proofs.log_pages.LogPages.page_at.Goals as goal

pub returns-then-eq-clause-ok : goal.returns-then-eq-clause-ok
returns-then-eq-clause-ok c = page_here c.args.self.now _ c.args.pid _ (Some c.in-Some.page.now) c.as_slice.ensures.value c.page_in.ensures (ap option_copied c.in-Some.is)

pub returns-else-eq-clause-err : goal.returns-else-eq-clause-err
returns-else-eq-clause-err c =
    version_here c.args.self.now c.args.pid (Some c.in-Some.page.now) (page_here c.args.self.now _ c.args.pid _ (Some c.in-Some.page.now) c.as_slice.ensures.value c.page_in.ensures (ap option_copied c.in-Some.is))

pub returns-in-None-clause-err : goal.returns-in-None-clause-err
returns-in-None-clause-err c = version_here c.args.self.now c.args.pid None (page_here c.args.self.now _ c.args.pid _ None c.as_slice.ensures.value c.page_in.ensures (ap option_copied c.in-None.is))
