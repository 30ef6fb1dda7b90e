use Rattle.std.proofs.Common.{◌≤◌, length}
use Rattle.line_words.proofs.input.whole_lines.Given as goal

abbrev pub invariant-sixteen : goal.invariant-sixteen
invariant-sixteen l = l.end ≤ length l.bytes

abbrev pub decreases-sixteen : goal.decreases-sixteen
decreases-sixteen l = l.end

abbrev pub invariant-loop-end : goal.invariant-loop-end
invariant-loop-end l = l.end ≤ length l.bytes

abbrev pub decreases-loop-end : goal.decreases-loop-end
decreases-loop-end l = l.end
