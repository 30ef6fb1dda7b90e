use Rattle.std.proofs.Common.{◌≡◌, ◌++◌, length}
use Rattle.std.specs.List.{flat_map}
use Rattle.line_words.specs.Words.{spelled}
use Rattle.line_words.proofs.words.push_bytes.Given as goal

abbrev pub invariant-runs : goal.invariant-runs
invariant-runs l = l.out.items ++ flat_map spelled l.rest ≡ l.fn.out.items ++ flat_map spelled l.fn.bytes

abbrev pub decreases-runs : goal.decreases-runs
decreases-runs l = length l.rest
