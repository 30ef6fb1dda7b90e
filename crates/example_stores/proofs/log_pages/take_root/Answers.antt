use Rattle.std.proofs.Common.{rules, of_calls, not}
use Rattle.std.proofs.lemmas.Fn.{filter_same}
use Rattle.std.specs.Cmp.Lexicographic.{slice_cmp}
use Rattle.std.specs.Ordering.{nat_cmp, eq_by_cmp}
use Rattle.example_stores.proofs.log_pages.take_root.Goals as goal

pub returns : goal.returns
returns c = filter_same _ (λ e. not (eq_by_cmp (slice_cmp nat_cmp) c.args.name.now e.0)) _ (λ x b f k. search (rules, of_calls)) _ _ c.retain.ensures.filtered
