use Rattle.std.proofs.Common.{◌≤◌, ◌<◌, length, sym, ap, ◌∙◌, arith}
use Rattle.std.specs.Cmp.Lexicographic.{slice_cmp}
use Rattle.std.specs.Ordering.{nat_cmp}
use Rattle.std.proofs.lemmas.List.{take_rest}
use Rattle.tree_check.proofs.Whole.{cmp_short, cmp_first, cmp_rest}
use Rattle.tree_check.proofs.page.compare_whole.Goals as goal

pub returns-then-key-count : goal.returns-then-key-count
returns-then-key-count c =
    let h : length c.args.key.now < length c.args.front.now = c.if-key-count.true in
    c.cmp.ensures ∙ cmp_short c.args.front.now c.args.rest.now c.args.key.now h

pub returns-then-is_eq : goal.returns-then-is_eq
returns-then-is_eq c =
    let h : length c.args.front.now ≤ length c.args.key.now = omega (arith, c.if-key-count.false) in
    c.cmp-then-is_eq.ensures ∙ ap (slice_cmp nat_cmp c.args.rest.now) (take_rest c.args.key.now (length c.args.front.now)) ∙ cmp_rest c.args.front.now c.args.rest.now c.args.key.now c.cmp-first.result h c.cmp-first.ensures (sym c.is_eq.ensures ∙ c.if-is_eq.true)

pub returns : goal.returns
returns c =
    let h : length c.args.front.now ≤ length c.args.key.now = omega (arith, c.if-key-count.false) in
    cmp_first c.args.front.now c.args.rest.now c.args.key.now c.cmp-first.result h c.cmp-first.ensures (sym c.is_eq.ensures ∙ c.if-is_eq.false)
