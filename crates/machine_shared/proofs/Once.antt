-- Numbers that are there once each.
use Rattle.std.proofs.Common.{◌≡◌, ◌≢◌, ◌∙◌, ℕ, ◌+◌, ◌≤◌, inl, inr, List, Option, Some, None, IfSome, ap, arith}
use Rattle.sled_nodes.proofs.Basics.{same_or_not}
use Rattle.machine_shared.specs.Gathered.{EachOnceBehind, times}
use Rattle.machine_shared.specs.Values.{CallerValue}

-- one number more
pub once_more : (before k : ℕ) (callers : List CallerValue) → EachOnceBehind before k callers → times callers (before + (k + 1)) ≡ 1 → EachOnceBehind before (k + 1) callers
once_more before k callers h one n given = elim (same_or_not n (k + 1)) [ inl last ↦ ap (λ i. times callers (before + i)) last ∙ one | inr off ↦ h n (given.0, below n k given.1 off) ]
  where
    below : (n k : ℕ) → n ≤ k + 1 → n ≢ k + 1 → n ≤ k
    below n k h off = omega arith

-- what holds anyway holds where there is something
pub of_some : {X : Type 0} (r : Option X) {Q : Type 0} → Q → IfSome r (λ x. Q)
of_some None q = tt
of_some (Some x) q = q
