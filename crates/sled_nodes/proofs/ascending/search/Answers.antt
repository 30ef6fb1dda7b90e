use Rattle.std.proofs.Common.{◌≡◌, ◌+◌, ◌-◌, ◌/◌, ◌<◌, length, ap, sym, subst, ◌∙◌, arith, Greater}
use Rattle.std.proofs.lemmas.List.{get_or_default}
use Rattle.std.specs.Cmp.Lexicographic.{slice_cmp, nat_list_cmp_total}
use Rattle.std.specs.List.{AllWithin}
use Rattle.std.specs.Ordering.{nat_cmp}
use Rattle.sled_nodes.proofs.Rising.{lower_to, higher_from, hit, gap}
use Rattle.sled_nodes.proofs.ascending.search.Goals as goal

pub halves-preserved-in-Less : goal.halves-preserved-in-Less
halves-preserved-in-Less g c =
    let middle = c.halves.low + (c.halves.high - c.halves.low) / 2 in
    let h : c.halves.low + (c.halves.high - c.halves.low) / 2 < length c.args.pairs.now = omega arith in
    record {
      order = omega arith;
      bound = omega arith;
      before = lower_to (slice_cmp nat_cmp) nat_list_cmp_total c.args.key.now c.args.pairs.now middle c.requires.sorted h (λ d.
          ap (λ e. slice_cmp nat_cmp e.0 c.args.key.now) (get_or_default c.args.pairs.now middle d c.index-pairs-middle.result h) ∙ (sym c.compare_to.ensures ∙ c.in-Less.is));
      after = c.halves.invariant.after;
    }

pub halves-preserved : goal.halves-preserved
halves-preserved g c =
    let middle = c.halves.low + (c.halves.high - c.halves.low) / 2 in
    let h : c.halves.low + (c.halves.high - c.halves.low) / 2 < length c.args.pairs.now = omega arith in
    record {
      order = omega arith;
      bound = omega arith;
      before = c.halves.invariant.before;
      after = higher_from (slice_cmp nat_cmp) nat_list_cmp_total c.args.key.now c.args.pairs.now middle c.requires.sorted h (λ d.
          ap (λ e. slice_cmp nat_cmp e.0 c.args.key.now) (get_or_default c.args.pairs.now middle d c.index-pairs-middle.result h) ∙ (sym c.compare_to.ensures ∙ c.in-Greater.is));
    }

pub returns-in-Equal-clause-ok : goal.returns-in-Equal-clause-ok
returns-in-Equal-clause-ok g c =
    let middle = c.halves.low + (c.halves.high - c.halves.low) / 2 in
    let h : c.halves.low + (c.halves.high - c.halves.low) / 2 < length c.args.pairs.now = omega arith in
    hit (slice_cmp nat_cmp) nat_list_cmp_total c.args.key.now c.args.pairs.now middle c.requires.sorted h (λ d.
    ap (λ e. slice_cmp nat_cmp e.0 c.args.key.now) (get_or_default c.args.pairs.now middle d c.index-pairs-middle.result h) ∙ (sym c.compare_to.ensures ∙ c.in-Equal.is))

pub returns-clause-err : goal.returns-clause-err
returns-clause-err g c =
    let met : c.halves.low ≡ c.halves.high = omega arith in
    gap (slice_cmp nat_cmp) nat_list_cmp_total c.args.key.now c.args.pairs.now c.halves.low (omega arith) c.halves.invariant.before (subst (λ n. AllWithin (λ e. slice_cmp nat_cmp e.0 c.args.key.now ≡ Greater) c.args.pairs.now n (length c.args.pairs.now)) (sym met) c.halves.invariant.after)
