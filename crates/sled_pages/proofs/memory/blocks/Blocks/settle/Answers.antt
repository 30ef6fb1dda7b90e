use Rattle.std.proofs.Common.{◌≡◌, true, sym, ◌∙◌, ◌/◌}
use Rattle.std.proofs.lemmas.Result.{on_ok_weaker, on_err_weaker}
use Rattle.sled_pages.specs.Blocks.{has_of}
use Rattle.sled_pages.specs.theory.Table.{slot_settled}
use Rattle.sled_pages.proofs.Rows.{place_within, in_place, row_is}
use Rattle.sled_pages.proofs.InPlace.{lies_changed, lies_unchanged}
use Rattle.sled_pages.proofs.memory.blocks.Blocks.settle.Goals as goal

pub returns-clause-ok : goal.returns-clause-ok
returns-clause-ok c =
    let m = c.args.self.now.blocks.items in
    let was = c.index_mut-block.result.now in
    let has : has_of c.args.self.now c.args.place ≡ true = sym c.has.ensures ∙ c.if-not-has.false in
    let within = place_within m c.args.place has in
    on_ok_weaker c.settle_in.result (lies_changed m c.args.place was c.settle_in.new.block within (row_is m (c.args.place / 64) was was within (sym c.index_mut-block.ensures.value)) (slot_settled c.args.link.now c.args.version) (in_place m c.args.place has)) c.settle_in.ensures.ok

pub returns-clause-err : goal.returns-clause-err
returns-clause-err c =
    let m = c.args.self.now.blocks.items in
    let was = c.index_mut-block.result.now in
    let has : has_of c.args.self.now c.args.place ≡ true = sym c.has.ensures ∙ c.if-not-has.false in
    let within = place_within m c.args.place has in
    on_err_weaker c.settle_in.result (lies_unchanged m c.args.place was c.settle_in.new.block within (row_is m (c.args.place / 64) was was within (sym c.index_mut-block.ensures.value)) (slot_settled c.args.link.now c.args.version)) c.settle_in.ensures.err
