use Rattle.std.proofs.Common.{◌≡◌, []}
use Rattle.sledfile.proofs.run_in.Given as goal

-- all that was printed is written
abbrev pub invariant-loop : goal.invariant-loop
invariant-loop g l = l.buffers.out.items ≡ []
