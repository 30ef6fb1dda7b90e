use Rattle.std.proofs.Common.{◌≡◌, ◌-◌, ◌≤◌, Less, Greater, length}
use Rattle.std.specs.Cmp.Lexicographic.{slice_cmp}
use Rattle.std.specs.List.{AllWithin}
use Rattle.std.specs.Ordering.{nat_cmp}
use Rattle.sled_nodes.proofs.ascending.search.Given as goal

-- the key is between the two places
abbrev pub invariant-halves : goal.invariant-halves
invariant-halves g l = record {
  order : l.low ≤ l.high;
  bound : l.high ≤ length l.pairs;
  before : AllWithin (λ e. slice_cmp nat_cmp e.0 l.key ≡ Less) l.pairs 0 l.low;
  after : AllWithin (λ e. slice_cmp nat_cmp e.0 l.key ≡ Greater) l.pairs l.high (length l.pairs);
}

abbrev pub decreases-halves : goal.decreases-halves
decreases-halves g l = l.high - l.low
