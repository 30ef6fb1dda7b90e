use Rattle.std.proofs.Common.{◌≡◌, count_by, take}
use Rattle.machine_shared.specs.Made.{made_values}
use Rattle.example_shared.specs.Raising.{has_written}
use Rattle.example_shared.proofs.way.count_written.Given as goal

abbrev pub invariant-loop-one : goal.invariant-loop-one
invariant-loop-one l = l.count ≡ count_by has_written (made_values (take l.one-index l.made))
