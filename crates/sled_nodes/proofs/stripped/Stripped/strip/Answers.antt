use Rattle.std.proofs.Common.{◌≡◌, ◌<◌, [], ◌++◌, length, take, get_or, ap, sym, ◌∙◌, arith, rules}
use Rattle.sled_nodes.proofs.Prefixes.{prefix_fits, stripped_by}
use Rattle.sled_nodes.proofs.stripped.Stripped.strip.Goals as goal

pub slice_bounds-joined-end : goal.slice_bounds-joined-end
slice_bounds-joined-end g c =
    let k : 0 < length c.args.list.now = search rules in
    let some : c.args.list.now ≡ [] → ⊥ = λ e. (let z : length c.args.list.now ≡ 0 = ap length e in omega arith) in
    let first : c.as_ref-2.result.now ≡ (get_or c.args.list.now 0 c.index-list-0.result).0 = c.as_ref-2.ensures in
    prefix_fits c.args.list.now c.prefix_len-count.result c.index-list-0.result some (c.prefix_len-count.ensures) ∙ ap (λ k. length (take c.prefix_len-count.result k)) (sym first)

pub of_rests-requires-in-Ok : goal.of_rests-requires-in-Ok
of_rests-requires-in-Ok g c =
    let k : 0 < length c.args.list.now = search rules in
    let some : c.args.list.now ≡ [] → ⊥ = λ e. (let z : length c.args.list.now ≡ 0 = ap length e in omega arith) in
    let first : c.as_ref-2.result.now ≡ (get_or c.args.list.now 0 c.index-list-0.result).0 = c.as_ref-2.ensures in
    (stripped_by c.args.front.now c.in_ok-prefix.prefix c.args.list.now c.in-Ok.rests.items c.prefix_len-count.result c.index-list-0.result some (c.prefix_len-count.ensures)
    (c.in_ok-prefix.ensures.ok ∙ (ap (λ f. f ++ take c.prefix_len-count.result c.as_ref-2.result.now) c.as_ref.ensures ∙ ap (λ k. c.args.front.now ++ take c.prefix_len-count.result k) first)) c.in-Ok.ensures.ok).0

pub returns-in-Ok-clause-ok : goal.returns-in-Ok-clause-ok
returns-in-Ok-clause-ok g c =
    let k : 0 < length c.args.list.now = search rules in
    let some : c.args.list.now ≡ [] → ⊥ = λ e. (let z : length c.args.list.now ≡ 0 = ap length e in omega arith) in
    let first : c.as_ref-2.result.now ≡ (get_or c.args.list.now 0 c.index-list-0.result).0 = c.as_ref-2.ensures in
    c.of_rests-in-Ok.ensures ∙ (stripped_by c.args.front.now c.in_ok-prefix.prefix c.args.list.now c.in-Ok.rests.items c.prefix_len-count.result c.index-list-0.result some (c.prefix_len-count.ensures)
    (c.in_ok-prefix.ensures.ok ∙ (ap (λ f. f ++ take c.prefix_len-count.result c.as_ref-2.result.now) c.as_ref.ensures ∙ ap (λ k. c.args.front.now ++ take c.prefix_len-count.result k) first)) c.in-Ok.ensures.ok).1
