use Rattle.std.proofs.Common.{◌≡◌, ◌∙◌, ap, sym, arith, length, take}
use Rattle.std.specs.Int.{w32, from_le_bytes}
use Rattle.std.proofs.lemmas.List.{take_rest, length-drop}
use Rattle.std.proofs.lemmas.Bool.{eq-eqb, eqb-true}
use Rattle.sled_files.specs.Header.{format}
use Rattle.sled_files.proofs.Headers.{header_begins, header_long, header_format}
use Rattle.files_once.proofs.mending.is_headed.Goals as goal

pub returns-then-not-begins_with_magic-clause-whole : goal.returns-then-not-begins_with_magic-clause-whole
returns-then-not-begins_with_magic-clause-whole c generation first is =
    let h = c.if-not-begins_with_magic.ensures.1 (header_begins c.args.payload.now first generation is) in cc

pub returns-in_default-clause-whole : goal.returns-in_default-clause-whole
returns-in_default-clause-whole c generation first is =
    absurd (omega (arith, c.in_default.ensures.cases, header_long c.args.payload.now first generation is, ap length (take_rest c.args.payload.now 8), length-drop 8 c.args.payload.now))

pub returns-clause-whole : goal.returns-clause-whole
returns-clause-whole c generation first is =
    let f : c.from_le_bytes-format.result ≡ format =
    c.from_le_bytes-format.ensures ∙ ap (from_le_bytes w32) (c.in-Some.ensures.cases.0 ∙ ap (take 4) (take_rest c.args.payload.now 8)) ∙ header_format c.args.payload.now first generation is in
    eq-eqb c.from_le_bytes-format.result 1 f

pub returns-clause-same : goal.returns-clause-same
returns-clause-same c is =
    sym (c.from_le_bytes-format.ensures ∙ ap (from_le_bytes w32) (c.in-Some.ensures.cases.0 ∙ ap (take 4) (take_rest c.args.payload.now 8))) ∙ eqb-true c.from_le_bytes-format.result 1 is
