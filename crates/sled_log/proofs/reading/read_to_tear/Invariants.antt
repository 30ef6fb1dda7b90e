use Rattle.std.proofs.Common.{map, length, ◌-◌}
use Rattle.sled_log.specs.Digest.{digest}
use Rattle.sled_log.proofs.ReadingLemmas.{IsFront}
use Rattle.sled_log.proofs.reading.read_to_tear.Given as goal

abbrev pub invariant-blocks-2 : goal.invariant-blocks-2
invariant-blocks-2 l = IsFront digest l.bytes (map (λ p. p.now) l.payloads.items) l.at

abbrev pub decreases-blocks-2 : goal.decreases-blocks-2
decreases-blocks-2 l = length l.bytes - l.at
