use Rattle.std.proofs.Common.{◌∙◌, ◌<◌, ◌^◌, length, sym, arith}
use Rattle.std.proofs.lemmas.Bool.{eqb-true}
use Rattle.sled_log.proofs.ReadingLemmas.{AreBytes}
use Rattle.sled_once.proofs.Blocks.{block_is}
use Rattle.sled_once.proofs.holding.is_block.Goals as goal

pub returns : goal.returns
returns c is =
    let a = c.in-Some.ensures.cases in
    let b = c.in-Some-split_first_chunk.ensures.cases in
    let l = c.in-Some-split_last.ensures.cases in
    let small : AreBytes c.args.bytes.now = λ i. omega (arith, c.type_inv.bytes i) in
    let fits : length c.in-Some-split_last.payload.now < 2 ^ 64 = omega (arith, c.if-from_le_bytes-payload.false, c.from_le_bytes.type_inv) in
    block_is c.args.bytes.now c.in-Some.behind.now c.in-Some-split_first_chunk.behind.now c.in-Some-split_last.payload.now c.in-Some-split_last.gate.now small a.1 b.1 l c.if-gate-ne-CLOSED.false
    c.in-Some.count.now c.in-Some-split_first_chunk.told.now a.0 a.2 b.0 b.2 fits
    (sym c.if-from_le_bytes-payload.false ∙ c.from_le_bytes.ensures)
    (sym c.digest_of.ensures ∙ sym (eqb-true c.from_le_bytes-2.result c.digest_of.result is) ∙ c.from_le_bytes-2.ensures)
