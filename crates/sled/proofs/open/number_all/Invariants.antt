use Rattle.std.proofs.Common.{◌≡◌, ◌++◌, map, drop}
use Rattle.sled.specs.Opens.{numbered}
use Rattle.sled.proofs.open.number_all.Given as goal

-- so many names are numbered, and the others are still to come
abbrev pub invariant-loop-root : goal.invariant-loop-root
invariant-loop-root l = record {
  last : l.last ≡ l.root-index;
  rest : l.trees.items ++ numbered l.root-index (map (λ r. r.0) (drop l.root-index l.roots)) ≡ numbered 0 (map (λ r. r.0) l.roots);
}
