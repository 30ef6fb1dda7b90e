use Rattle.std.proofs.Common.{get_or, ap, sym, ◌∙◌, arith}
use Rattle.sled_nodes.specs.Prefix.{shared}
use Rattle.sled_nodes.proofs.Prefixes.{stripped_without}
use Rattle.sled_nodes.proofs.stripped.apart_without.Goals as goal

pub returns : goal.returns
returns g c = λ e p.
    let a = c.first_but-first.ensures.within in
    let b = c.last_but-last.ensures.within in
    stripped_without p c.args.rests.now c.args.i c.first_but-first.result c.last_but-last.result c.index-rests-first.result c.index-rests-last.result (omega arith) (omega (arith, a)) b c.first_but-first.ensures.other c.last_but-last.ensures.other
    (ap (λ k. shared k (get_or c.args.rests.now c.last_but-last.result c.index-rests-last.result).0) (sym c.as_ref.ensures) ∙ (ap (shared c.as_ref.result.now) (sym c.as_ref-2.ensures) ∙ c.is_apart.ensures e))
