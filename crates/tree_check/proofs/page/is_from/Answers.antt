use Rattle.std.proofs.Common.{rules, ◌≡◌, ◌++◌}
use Rattle.std.specs.Cmp.Lexicographic.{slice_cmp}
use Rattle.std.specs.Ordering.{nat_cmp}
use Rattle.tree_check.proofs.Whole.{not_below}
use Rattle.tree_check.proofs.page.is_from.Goals as goal

pub returns : goal.returns
returns c =
    let e : c.compare_whole.result ≡ slice_cmp nat_cmp (c.args.front.now ++ c.args.rest.now) c.args.lo.now = search rules in
    not_below (c.args.front.now ++ c.args.rest.now) c.args.lo.now c.compare_whole.result c.is_lt.result e c.is_lt.ensures
