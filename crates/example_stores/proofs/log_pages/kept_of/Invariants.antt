use Rattle.std.proofs.Common.{◌≡◌, ℕ, ◌+◌, ◌<◌, ◌≤◌, true, length, take}
use Rattle.example_stores.specs.Log.{state_after}
use Rattle.example_stores.proofs.log_pages.kept_of.Given as goal

abbrev pub invariant-loop-kept : goal.invariant-loop-kept
invariant-loop-kept l = record {
  at_most : l.kept ≤ l.keep;
  within : l.flushed + l.kept ≤ length l.log;
  most : (j : ℕ) → l.kept < j → j ≤ l.keep → l.flushed + j ≤ length l.log → (state_after (take (l.flushed + j) l.log)).in_group ≡ true;
}

abbrev pub decreases-loop-kept : goal.decreases-loop-kept
decreases-loop-kept l = l.kept
