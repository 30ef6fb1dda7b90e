use Rattle.std.proofs.Common.{ap, sym, ◌∙◌, arith}
use Rattle.std.proofs.lemmas.List.{get_or_default}
use Rattle.std.specs.Cmp.Lexicographic.{slice_cmp, nat_list_cmp_total}
use Rattle.std.specs.Ordering.{nat_cmp}
use Rattle.sled_nodes.proofs.Rising.{hit}
use Rattle.sled_nodes.proofs.ascending.search_near.Goals as goal

pub returns-in-Equal-clause-ok : goal.returns-in-Equal-clause-ok
returns-in-Equal-clause-ok g c =
    hit (slice_cmp nat_cmp) nat_list_cmp_total c.args.key.now c.args.pairs.now c.args.near c.requires.sorted (omega arith) (λ d.
    ap (λ e. slice_cmp nat_cmp e.0 c.args.key.now) (get_or_default c.args.pairs.now c.args.near d c.index-pairs-near.result (omega arith)) ∙ (sym c.compare_to.ensures ∙ c.in-Equal.is))
