use Rattle.std.proofs.Common.{◌≡◌, ℕ, ◌≤◌, nat_le, true, take}
use Rattle.std.specs.List.{list_all}
use Rattle.sled_nodes.proofs.stripped.greatest_pid.Given as goal

abbrev pub invariant-loop-pointer : goal.invariant-loop-pointer
invariant-loop-pointer l = record {
  least : l.least ≤ l.greatest;
  all : list_all (λ e. nat_le e.1 l.greatest) (take l.pointer-index l.pointers) ≡ true;
  such : (n : ℕ) → l.least ≤ n → list_all (λ e. nat_le e.1 n) (take l.pointer-index l.pointers) ≡ true → l.greatest ≤ n;
}
