use Rattle.std.proofs.Common.{ℕ, ◌+◌, ◌<◌, true, false, List, [], ◌∷◌, ◌≡◌, length, refl, sym, arith}
use mathlib.Core.Bool.{true≢false}
use Rattle.sled_queues.specs.Lists.{Prefixes}
use Rattle.sled_queues.proofs.Beginning.{beginnings_all, nothing_listed}
use Rattle.sled_queues.proofs.prefixes.beginnings.Goals as goal

pub returns-then-longest-key-clause-rest : goal.returns-then-longest-key-clause-rest
returns-then-longest-key-clause-rest c = beginnings_all c.args.lengths.now c.args.key.now c.in-Some.longest.now c.in-Some.ensures.greatest (omega arith)

pub returns-in_default-clause-rest : goal.returns-in_default-clause-rest
returns-in_default-clause-rest c = sym (nothing_listed c.args.lengths.now c.args.key.now (length c.args.key.now + 1) (none c.args.lengths.now.entries c.in_default.ensures.variant.1))
  where
    none : (es : List (ℕ × Prefixes)) → (0 < length es → false ≡ true) → es ≡ []
    none [] h = refl
    none (e ∷ es) h = absurd (true≢false (sym (h (omega arith))))
