use Rattle.std.proofs.Common.{ap, ◌∙◌}
use Rattle.example_stores.proofs.Logging.{same_now}
use Rattle.example_stores.proofs.log_pages.LogPagesPages.root.Goals as goal

pub returns : goal.returns
returns c = c.root_in.ensures ∙ ap (λ s. s.roots c.args.name.now) (same_now c.args.self.now _ c.as_slice.ensures.value)
