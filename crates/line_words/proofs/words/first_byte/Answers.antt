use Rattle.std.proofs.Common.{arith, None}
use Rattle.line_words.proofs.Spelling.{begins_plain, begins_none, begins_cut, begins_cut_after, begins_escape}
use Rattle.line_words.proofs.words.first_byte.Goals as goal

pub returns-then-is_plain : goal.returns-then-is_plain
returns-then-is_plain c = (begins_plain c.args.word.now c.in_ok-first.rest.now c.in_ok-first.first.now c.in_ok-first.ensures.cases.0 c.if-first-ne37.true (cc), omega (arith, c.in_ok-first.ensures.cases.1))

pub returns-else-is_plain : goal.returns-else-is_plain
returns-else-is_plain c = λ _. begins_none c.args.word.now c.in_ok-first.rest.now c.in_ok-first.first.now c.in_ok-first.ensures.cases.0 c.if-first-ne37.true (cc)

pub returns-in_default : goal.returns-in_default
returns-in_default c = λ _. begins_cut c.args.word.now c.in_ok-first.rest.now c.in_ok-first.first.now c.in_ok-first.ensures.cases.0 c.if-first-ne37.false c.in_default.ensures.cases

pub returns-in_default-split_first : goal.returns-in_default-split_first
returns-in_default-split_first c = λ _. begins_cut_after c.args.word.now c.in_ok-first.rest.now c.in-Some.rest.now c.in_ok-first.first.now c.in-Some.high.now c.in_ok-first.ensures.cases.0 c.if-first-ne37.false c.in-Some.ensures.cases.0 c.in_default-split_first.ensures.cases

pub returns-in-Some-byte_of : goal.returns-in-Some-byte_of
returns-in-Some-byte_of c = (begins_escape c.args.word.now c.in_ok-first.rest.now c.in-Some.rest.now c.in-Some-split_first.rest.now c.in_ok-first.first.now c.in-Some.high.now c.in-Some-split_first.low.now _ c.in_ok-first.ensures.cases.0 c.if-first-ne37.false c.in-Some.ensures.cases.0 c.in-Some-split_first.ensures.cases.0 c.in-Some-byte_of.ensures, omega (arith, c.in_ok-first.ensures.cases.1, c.in-Some.ensures.cases.1, c.in-Some-split_first.ensures.cases.1))

pub returns-in-None : goal.returns-in-None
returns-in-None c = λ _. begins_escape c.args.word.now c.in_ok-first.rest.now c.in-Some.rest.now c.in-Some-split_first.rest.now c.in_ok-first.first.now c.in-Some.high.now c.in-Some-split_first.low.now None c.in_ok-first.ensures.cases.0 c.if-first-ne37.false c.in-Some.ensures.cases.0 c.in-Some-split_first.ensures.cases.0 c.in-None.ensures
