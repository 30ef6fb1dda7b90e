use Rattle.std.proofs.Common.{◌≡◌, ◌-◌, ◌^◌, min, length, take}
use Rattle.std.specs.List.{sum_by}
use Rattle.line_sessions.proofs.session.count_pairs.Given as goal

abbrev pub invariant-loop-tree : goal.invariant-loop-tree
invariant-loop-tree l = l.count ≡ min (sum_by (λ c. length c.2.items) (take l.tree-index l.trees)) (2 ^ 64 - 1)
