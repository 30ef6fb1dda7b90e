use Rattle.std.proofs.Common.{ap, sym, ◌∙◌, ◌≤◌, ◌<◌, ◌+◌, ◌/◌, length, arith, subst, slice_get}
use Rattle.std.proofs.lemmas.Result.{on_ok_weaker}
use Rattle.sled_pages.specs.Joined.{joined}
use Rattle.sled_pages.specs.Rows.{lies_in, has_in}
use Rattle.sled_pages.proofs.Rows.{set_lies, set_more, set_all, row_is}
use Rattle.sled_pages.proofs.memory.blocks.Blocks.make.Goals as goal

pub returns-in_err-lengthen-clause-places : goal.returns-in_err-lengthen-clause-places
returns-in_err-lengthen-clause-places c p h = ap (λ rows. has_in rows p) c.lengthen.ensures.same ∙ h

pub returns-clause-slots : goal.returns-clause-slots
returns-clause-slots c =
    let m = c.lengthen.new.blocks.items in
    let long : c.args.place / 64 + 1 ≤ length m = c.in_ok-lengthen.ensures.long in
    let within : c.args.place / 64 < length m = omega (arith, long) in
    let row = row_is m (c.args.place / 64) c.index_mut.result.now c.index_mut.result.now within (sym c.index_mut.ensures.value) in
    set_lies m c.args.place c.fill.new.block within (λ j. c.fill.ensures.same j ∙ ap (λ r. joined (slice_get r j)) (sym row)) ∙ ap lies_in c.lengthen.ensures.same

pub returns-clause-places : goal.returns-clause-places
returns-clause-places c p h =
    let m = c.lengthen.new.blocks.items in
    let long : c.args.place / 64 + 1 ≤ length m = c.in_ok-lengthen.ensures.long in
    let within : c.args.place / 64 < length m = omega (arith, long) in
    let row = row_is m (c.args.place / 64) c.index_mut.result.now c.index_mut.result.now within (sym c.index_mut.ensures.value) in
    set_more m c.args.place c.fill.new.block within (subst (λ r. length r ≤ length c.fill.new.block.items) (sym row) c.fill.ensures.longer) p (ap (λ rows. has_in rows p) c.lengthen.ensures.same ∙ h)

pub returns-clause-room : goal.returns-clause-room
returns-clause-room c =
    let m = c.lengthen.new.blocks.items in
    let long : c.args.place / 64 + 1 ≤ length m = c.in_ok-lengthen.ensures.long in
    let within : c.args.place / 64 < length m = omega (arith, long) in
    on_ok_weaker c.fill.result (λ e. set_all m c.args.place c.fill.new.block within e) c.fill.ensures.full
