use Rattle.std.proofs.Common.{rules, refl, inl, inr, ◌≡◌, ◌-◌, ◌∙◌, sym, ap, arith, length, take, drop}
use Rattle.std.specs.Int.{w32, from_le_bytes}
use Rattle.std.proofs.lemmas.List.{take_rest, length-drop}
use Rattle.sled_log.proofs.ReadingLemmas.{AreBytes}
use Rattle.sled_files.specs.Header.{format}
use Rattle.sled_files.proofs.Headers.{header_is, header_begins, header_long, header_format}
use Rattle.sled_files.proofs.found.read_header.Goals as goal

pub returns-then-not-begins_with_magic-clause-none : goal.returns-then-not-begins_with_magic-clause-none
returns-then-not-begins_with_magic-clause-none c generation first is =
    let h = c.if-not-begins_with_magic.ensures.1 (header_begins c.args.payload.now first generation is) in cc

pub returns-in_default-clause-none : goal.returns-in_default-clause-none
returns-in_default-clause-none c generation first is =
    omega (arith, c.in_default.ensures.cases, header_long c.args.payload.now first generation is, ap length (take_rest c.args.payload.now 8), length-drop 8 c.args.payload.now)

pub returns-then-format-ne-FORMAT-clause-none : goal.returns-then-format-ne-FORMAT-clause-none
returns-then-format-ne-FORMAT-clause-none c generation first is =
    let f : c.from_le_bytes-format.result ≡ format =
    c.from_le_bytes-format.ensures ∙ ap (from_le_bytes w32) (c.in-Some.ensures.cases.0 ∙ ap (take 4) (take_rest c.args.payload.now 8)) ∙ header_format c.args.payload.now first generation is in
    omega (arith, f, c.if-format-ne-FORMAT.true)

pub returns-in_default-split_first_chunk-clause-none : goal.returns-in_default-split_first_chunk-clause-none
returns-in_default-split_first_chunk-clause-none c generation first is =
    omega (arith, c.in_default-split_first_chunk.ensures.cases, c.in-Some.ensures.cases.2, header_long c.args.payload.now first generation is, ap length (take_rest c.args.payload.now 8), length-drop 8 c.args.payload.now)

pub returns-clause-ok : goal.returns-clause-ok
returns-clause-ok c =
    let small : AreBytes c.args.payload.now = λ i. omega (arith, c.type_inv.payload i) in
    let one = c.in-Some.ensures.cases in
    let two = c.in-Some-split_first_chunk.ensures.cases in
    let number : c.from_le_bytes-format.result ≡ format = omega (arith, c.if-format-ne-FORMAT.false) in
    header_is c.args.payload.now (take (length c.args.payload.now - 8) (drop 8 c.args.payload.now)) c.in-Some.format.now c.in-Some.behind.now c.in-Some-split_first_chunk.generation.now c.in-Some-split_first_chunk.first.now c.from_le_bytes.result small
    (c.if-not-begins_with_magic.ensures.0 (search rules)) (take_rest c.args.payload.now 8) one.0 one.1 (omega (arith, one.2)) (sym c.from_le_bytes-format.ensures ∙ number) two.0 two.1 (omega (arith, two.2)) c.from_le_bytes.ensures

pub returns-then-not-begins_with_magic-clause-cause : goal.returns-then-not-begins_with_magic-clause-cause
returns-then-not-begins_with_magic-clause-cause c = (refl, λ magic. absurd (let h = c.if-not-begins_with_magic.ensures.1 magic in cc))

pub returns-in_default-clause-cause : goal.returns-in_default-clause-cause
returns-in_default-clause-cause c = (refl, λ magic. inl (omega (arith, c.in_default.ensures.cases, ap length (take_rest c.args.payload.now 8), length-drop 8 c.args.payload.now)))

pub returns-then-format-ne-FORMAT-clause-cause : goal.returns-then-format-ne-FORMAT-clause-cause
returns-then-format-ne-FORMAT-clause-cause c = (
  c.if-not-begins_with_magic.ensures.0 (search rules),
  omega (arith, c.in-Some.ensures.cases.2, ap length (take_rest c.args.payload.now 8), length-drop 8 c.args.payload.now),
  sym (c.from_le_bytes-format.ensures ∙ ap (from_le_bytes w32) (c.in-Some.ensures.cases.0 ∙ ap (take 4) (take_rest c.args.payload.now 8))),
  λ is. c.if-format-ne-FORMAT.true is,
)

pub returns-in_default-split_first_chunk-clause-cause : goal.returns-in_default-split_first_chunk-clause-cause
returns-in_default-split_first_chunk-clause-cause c =
    let number : c.from_le_bytes-format.result ≡ format = omega (arith, c.if-format-ne-FORMAT.false) in (
      refl,
      λ magic. inr (
        sym (c.from_le_bytes-format.ensures ∙ ap (from_le_bytes w32) (c.in-Some.ensures.cases.0 ∙ ap (take 4) (take_rest c.args.payload.now 8))) ∙ number,
        omega (arith, c.in_default-split_first_chunk.ensures.cases, c.in-Some.ensures.cases.2, ap length (take_rest c.args.payload.now 8), length-drop 8 c.args.payload.now),
      ),
    )
