use Rattle.std.proofs.Common.{◌≡◌, ◌++◌, length}
use Rattle.machine_shared.specs.Orders.{in_order}
use Rattle.machine_shared.specs.theory.Orders.{Begun}
use Rattle.machine_shared.proofs.pages.taken.Given as goal

abbrev pub invariant-loop-place : goal.invariant-loop-place
invariant-loop-place g l = record {
  begun : Begun l.pairs;
  all : in_order l.back l.initial.pairs.pairs ≡ l.page.items ++ in_order l.back l.pairs.pairs;
  same : l.pairs.pages ≡ l.initial.pairs.pages;
  root : l.pairs.root ≡ l.initial.pairs.root;
  count : length l.page.items ≡ l._place;
}
