use Rattle.std.proofs.Common.{ap, sym, ◌∙◌, ◌<◌, ◌/◌, ◌%◌, length, slice_set}
use Rattle.sled_pages.proofs.Rows.{put_lies, put_has, place_within, in_place, row_is}
use Rattle.sled_pages.proofs.memory.blocks.Blocks.put.Goals as goal

pub returns-clause-slots : goal.returns-clause-slots
returns-clause-slots c =
    let m = c.args.self.now.blocks.items in
    let within : c.args.place / 64 < length m = place_within m c.args.place c.requires in
    let row = row_is m (c.args.place / 64) c.index_mut.result.now c.index_mut.result.now within (sym c.index_mut.ensures.value) in
    put_lies m c.args.place c.put_in.new.block within c.args.slot (in_place m c.args.place c.requires) (c.put_in.ensures.set ∙ ap (λ r. slice_set r (c.args.place % 64) c.args.slot) (sym row))

pub returns-clause-places : goal.returns-clause-places
returns-clause-places c =
    let m = c.args.self.now.blocks.items in
    let within : c.args.place / 64 < length m = place_within m c.args.place c.requires in
    let row = row_is m (c.args.place / 64) c.index_mut.result.now c.index_mut.result.now within (sym c.index_mut.ensures.value) in
    put_has m c.args.place c.put_in.new.block within c.args.slot (c.put_in.ensures.set ∙ ap (λ r. slice_set r (c.args.place % 64) c.args.slot) (sym row))
