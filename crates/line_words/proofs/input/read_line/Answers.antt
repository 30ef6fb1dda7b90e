use Rattle.std.proofs.Common.{◌≡◌, length, arith}
use Rattle.line_words.proofs.Parts.{empty_at_end}
use Rattle.line_words.proofs.input.read_line.Goals as goal

pub returns-clause-end : goal.returns-clause-end
returns-clause-end g c = λ zero.
    let none : length c.copy_line.new.line.items ≡ 0 = omega (arith, zero, c.len-2.ensures, c.copy_line.new.line.ok.0) in
    empty_at_end (g.R.Read.remaining c.args.input.now) (g.R.Read.remaining c.is_at_end.new.input) c.copy_line.new.line.items c.in_ok-is_at_end.ensures.same c.in_ok-copy_line.ensures.bytes none
