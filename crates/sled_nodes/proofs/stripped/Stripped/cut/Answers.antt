use Rattle.std.proofs.Common.{◌≡◌, ◌<◌, [], length, take, get_or, ap, sym, ◌∙◌, arith, rules}
use Rattle.sled_nodes.proofs.Prefixes.{prefix_fits, some_begin, stripped_by, behind_nothing}
use Rattle.sled_nodes.proofs.stripped.Stripped.cut.Goals as goal

pub slice_bounds-from_slice-end : goal.slice_bounds-from_slice-end
slice_bounds-from_slice-end g c =
    let k : 0 < length c.args.list.items = some_begin c.args.list.items c.args.count c.requires.count c.requires.some in
    let some : c.args.list.items ≡ [] → ⊥ = λ e. (let z : length c.args.list.items ≡ 0 = ap length e in omega (arith, k)) in
    let first : c.as_ref.result.now ≡ (get_or c.args.list.items 0 c.index.result.now).0 = search rules in
    prefix_fits c.args.list.items c.args.count c.index.result.now some c.requires.count ∙ ap (λ k. length (take c.args.count k)) (sym first)

pub of_rests-requires : goal.of_rests-requires
of_rests-requires g c =
    let k : 0 < length c.args.list.items = some_begin c.args.list.items c.args.count c.requires.count c.requires.some in
    let some : c.args.list.items ≡ [] → ⊥ = λ e. (let z : length c.args.list.items ≡ 0 = ap length e in omega (arith, k)) in
    let first : c.as_ref.result.now ≡ (get_or c.args.list.items 0 c.index.result.now).0 = search rules in
    (stripped_by [] c.in-Ok.prefix c.args.list.items c.in-Ok-keys_cut.rests.items c.args.count c.index.result.now some c.requires.count
    (c.in-Ok.ensures.ok ∙ ap (take c.args.count) first) c.in-Ok-keys_cut.ensures.ok).0

pub returns-in-Ok-keys_cut-clause-ok : goal.returns-in-Ok-keys_cut-clause-ok
returns-in-Ok-keys_cut-clause-ok g c =
    let k : 0 < length c.args.list.items = some_begin c.args.list.items c.args.count c.requires.count c.requires.some in
    let some : c.args.list.items ≡ [] → ⊥ = λ e. (let z : length c.args.list.items ≡ 0 = ap length e in omega (arith, k)) in
    let first : c.as_ref.result.now ≡ (get_or c.args.list.items 0 c.index.result.now).0 = search rules in
    c.of_rests.ensures ∙ ((stripped_by [] c.in-Ok.prefix c.args.list.items c.in-Ok-keys_cut.rests.items c.args.count c.index.result.now some c.requires.count
    (c.in-Ok.ensures.ok ∙ ap (take c.args.count) first) c.in-Ok-keys_cut.ensures.ok).1 ∙ behind_nothing c.args.list.items)
