use Rattle.std.proofs.Common.{◌+◌, ◌-◌, length, sym, ◌∙◌, arith}
use Rattle.line_words.specs.Words.{is_plain}
use Rattle.line_words.proofs.Plain.{fails_among, passes_more, tells_last}
use Rattle.line_words.proofs.words.all_plain.Goals as goal

pub returns-then-not-few_plain : goal.returns-then-not-few_plain
returns-then-not-few_plain c = sym (fails_among is_plain c.loop-at.at _ c.args.bytes.now (sym c.few_plain-in-loop-at.ensures ∙ c.if-not-few_plain.true))

pub loop-at-preserved : goal.loop-at-preserved
loop-at-preserved c = passes_more is_plain c.loop-at.at (c.loop-at.at + 16 - c.loop-at.at) _ c.args.bytes.now (omega arith) c.loop-at.invariant (sym c.few_plain-in-loop-at.ensures ∙ c.if-not-few_plain.false)

pub returns : goal.returns
returns c =
    let bytes = c.args.bytes.now in
    let last = length bytes - 16 in
    tells_last is_plain last c.loop-at.at (length bytes - last) bytes _ (omega arith) (omega arith) c.loop-at.invariant c.few_plain-2.ensures
