use Rattle.std.proofs.Common.{ap, ◌∙◌, ◌++◌}
use Rattle.ordered_keys.specs.Keys.{spelled_number}
use Rattle.example_databases.proofs.Entries.{spelled_first, found_all_as}
use Rattle.example_databases.proofs.index.entries_under.Goals as goal

pub returns : goal.returns
returns g c = found_all_as g.P.Pages.store g.M.MergeOperator.meant c.args.db.now c.args.tree.now c.law_prefixes.ensures c.args.number c.ranges.number.fits _ _ (λ v. v.items) _
    (spelled_first c.args.number _ (c.as_slice.ensures.value ∙ c.in_ok-push_number.ensures.ok ∙ ap (λ items. items ++ spelled_number c.args.number) c.new-prefix.ensures.items)) c.in-Ok.ensures.ok c.all_of-found.ensures.all c.all_of-found.ensures.bytes
