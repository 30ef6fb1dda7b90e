use Rattle.std.proofs.Common.{◌∙◌}
use Rattle.ordered_keys.proofs.Reading.{read_end, read_none}
use Rattle.ordered_keys.proofs.text.read_text.Goals as goal

pub returns-in_default-piece-clause-some : goal.returns-in_default-piece-clause-some
returns-in_default-piece-clause-some c = read_end c.pieces.text.items c.in_ok-from_slice.field-0 c.pieces.rest.now c.in-Some.others.now c.args.bytes.now c.in-Some.piece c.pieces.invariant c.in-Some.ensures.some c.in_default-piece.is (c.in_ok-from_slice.ensures.ok ∙ c.as_slice.ensures.value)

pub returns-clause-none : goal.returns-clause-none
returns-clause-none c = read_none c.pieces.text.items c.pieces.rest.now c.args.bytes.now c.pieces.invariant c.in_default.ensures.none
