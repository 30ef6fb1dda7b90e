use Rattle.std.proofs.Common.{Some, None, ap, sym, ◌∙◌}
use Rattle.std.specs.Option.{option_copied}
use Rattle.sled_store.specs.Store.{view_of}
use Rattle.example_stores.proofs.Logging.{page_here}
use Rattle.example_stores.proofs.log_pages.LogPagesPages.read.Goals as goal

pub returns-in_ok-share-in-Some-clause-ok : goal.returns-in_ok-share-in-Some-clause-ok
returns-in_ok-share-in-Some-clause-ok c =
    ap (λ n. Some (record { pid = c.args.pid; version = c.in-Some.page.now.version; node = n })) c.in_ok-share-in-Some.ensures.ok
    ∙ sym (ap (view_of c.args.pid) (page_here c.args.self.now _ c.args.pid _ (Some c.in-Some.page.now) c.as_slice.ensures.value c.page_in.ensures (ap option_copied c.in-Some.is)))

pub returns-in-None-clause-ok : goal.returns-in-None-clause-ok
returns-in-None-clause-ok c = sym (ap (view_of c.args.pid) (page_here c.args.self.now _ c.args.pid _ None c.as_slice.ensures.value c.page_in.ensures (ap option_copied c.in-None.is)))
