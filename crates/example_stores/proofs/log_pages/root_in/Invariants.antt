use Rattle.std.proofs.Common.{◌≡◌, ◌-◌, length, take}
use Rattle.example_stores.specs.Log.{state_after}
use Rattle.example_stores.proofs.log_pages.root_in.Given as goal

abbrev pub invariant-loop-i : goal.invariant-loop-i
invariant-loop-i l = (state_after (take (length l.log - l.i) l.log)).roots l.name ≡ (state_after l.log).roots l.name
