use Rattle.std.proofs.Common.{sym}
use Rattle.line_words.proofs.Numbers.{number_of-too_great, number_of-all}
use Rattle.line_words.proofs.words.number_of.Goals as goal

pub returns-in_default : goal.returns-in_default
returns-in_default c = sym (number_of-too_great c.args.digits.now c.loop-digit.digit-index c.loop-digit.number c.loop-digit-test.true c.loop-digit.invariant.value c.in_default.ensures)

pub returns : goal.returns
returns c = sym (number_of-all c.args.digits.now c.loop-digit.digit-index c.loop-digit.number c.loop-digit-test.false c.loop-digit.invariant.digits c.loop-digit.invariant.value c.loop-digit.invariant.small)
