use Rattle.std.proofs.Common.{◌≡◌, nat_le, true, take}
use Rattle.std.specs.List.{list_all}
use Rattle.sled_pages.proofs.memory.back.greatest_root.Given as goal

abbrev pub invariant-loop-root : goal.invariant-loop-root
invariant-loop-root l = list_all (λ r. nat_le r.1 l.greatest) (take l.root-index l.roots) ≡ true
