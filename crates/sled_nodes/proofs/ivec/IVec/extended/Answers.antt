use Rattle.std.proofs.Common.{◌≡◌, ◌+◌, ◌-◌, drop, length, refl, ap, ◌∙◌, arith}
use Rattle.std.proofs.lemmas.List.{drop-drop}
use Rattle.sled_nodes.proofs.Strings.{more_short}
use Rattle.sled_nodes.proofs.ivec.IVec.extended.Goals as goal

pub invariant_of-result : goal.invariant_of-result
invariant_of-result c =
    let n = c.args.count + length c.args.more.now in
    let end : c.args.count + (c.args.count + length c.args.more.now - c.args.count) ≡ c.args.count + length c.args.more.now = omega arith in
    (c.requires.room, more_short c.args.count (length c.args.more.now) c.args.bytes.now c.args.more.now c.copy_from_slice.new.self _ c.copy_from_slice.ensures.after refl c.requires.room c.requires.zeros (drop-drop (n - c.args.count) c.args.count c.args.bytes.now ∙ ap (λ m. drop m c.args.bytes.now) end))
