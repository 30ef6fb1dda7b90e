use Rattle.std.proofs.Common.{ap, ◌∙◌}
use Rattle.example_stores.proofs.Logging.{same_now}
use Rattle.example_stores.proofs.log_pages.LogPagesPages.in_group.Goals as goal

pub returns : goal.returns
returns c = c.is_open.ensures ∙ ap (λ s. s.in_group) (same_now c.args.self.now _ c.as_slice.ensures.value)
