use Rattle.std.proofs.Common.{rules, ◌≡◌, ◌++◌, sym, ap, ◌∙◌}
use Rattle.std.specs.Cmp.Lexicographic.{slice_cmp}
use Rattle.std.specs.Ordering.{nat_cmp}
use Rattle.tree_laws.specs.Forest.{first_key}
use Rattle.tree_check.proofs.Whole.{whole_of, first_behind}
use Rattle.tree_check.proofs.page.begins_at.Goals as goal

pub returns : goal.returns
returns c = λ t.
    let e : c.compare_whole.result ≡ slice_cmp nat_cmp (c.prefix.result.now ++ c.index-rests-0.result.0) c.args.lo.now = search rules in
    ap first_key (sym (whole_of c.args.index.now c.rests-rests.result.now c.prefix.result.now c.prefix.ensures c.rests-rests.ensures))
    ∙ first_behind c.prefix.result.now c.args.lo.now c.rests-rests.result.now c.index-rests-0.result c.compare_whole.result c.is_eq.result c.index-rests-0.is c.if-rests-eq0.false e c.is_eq.ensures t
