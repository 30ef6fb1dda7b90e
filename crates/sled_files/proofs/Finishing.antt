-- The numbers of a store that was replayed, against the limits.
use Rattle.std.proofs.Common.{◌≡◌, ℕ, ◌+◌, ◌-◌, ◌<◌, ◌≤◌, sym, ◌∙◌, ap, arith}
use Rattle.std.specs.Prelude.{Bool, false, max, nat_lt, nat_le, ◌&&◌}
use Rattle.sled_store.specs.Store.{Store}
use Rattle.sled_pages.specs.Rebuild.{Rebuilt, rebuilt_store}
use Rattle.sled_files.specs.theory.Replay.{AreBelow}
use Rattle.sled_files.specs.Opening.{IsReopened}
use Rattle.sled_files.proofs.Replaying.{durable_with}

-- what a store says that was finished with these limits
module _ (r : Rebuilt) (pids versions mark greatest given : ℕ) (s : Store) (is : s ≡ rebuilt_store r pids versions mark)
    (pids_are : (p : ℕ) → 0 < p → s.pids p ≡ nat_le p greatest) (versions_are : (v : ℕ) → s.versions v ≡ nat_lt v given) where
  pids_by : (p : ℕ) → 0 < p → (nat_lt 0 p && nat_lt p (max (r.last + 1) pids)) ≡ nat_le p greatest
  pids_by p lt = sym (ap (λ (x : Store). x.pids p) is) ∙ pids_are p lt

  versions_by : (v : ℕ) → nat_lt v (max r.next versions) ≡ nat_lt v given
  versions_by v = sym (ap (λ (x : Store). x.versions v) is) ∙ versions_are v

  last_below : greatest ≤ pids - 1 → 0 < r.last → r.last < pids
  last_below le lt = let h = pids_by r.last lt in grind arith

  next_below : given ≤ versions → r.next ≤ versions
  next_below le = let h = versions_by (r.next - 1) in grind arith

  pub are_below : (in_group : Bool) → greatest ≤ pids - 1 → given ≤ versions → AreBelow (r.last, r.next) (durable_with in_group mark pids versions r)
  are_below in_group le few = record { pids = last_below le; versions = next_below few }

  pub not_pids : (in_group : Bool) → pids - 1 < greatest → AreBelow (r.last, r.next) (durable_with in_group mark pids versions r) → ⊥
  not_pids in_group lt below = let positive : 0 < greatest = omega arith in let h = pids_by greatest positive in let b = below.pids in grind arith

  pub not_versions : (in_group : Bool) → versions < given → AreBelow (r.last, r.next) (durable_with in_group mark pids versions r) → ⊥
  not_versions in_group lt below = let h = versions_by versions in let b = below.versions in grind arith

same_pids : (last pids p : ℕ) → (0 < last → last < pids) → (nat_lt 0 p && nat_lt p (max (last + 1) pids)) ≡ (nat_lt 0 p && nat_lt p pids)
same_pids last pids p b = grind arith

same_versions : (next versions v : ℕ) → next ≤ versions → nat_lt v (max next versions) ≡ nat_lt v versions
same_versions next versions v le = grind arith

pub reopened : (r : Rebuilt) (in_group : Bool) (pids versions mark : ℕ) (s : Store) → s ≡ rebuilt_store r pids versions mark → in_group ≡ false → AreBelow (r.last, r.next) (durable_with in_group mark pids versions r)
    → IsReopened (durable_with in_group mark pids versions r) s
reopened r in_group pids versions mark s is sealed below = record {
  base = ap (λ (x : Store). x.base) is ∙ ap (λ (b : Bool). (durable_with b mark pids versions r).state) (sym sealed);
  recent = ap (λ (x : Store). x.recent) is;
  mark = ap (λ (x : Store). x.mark) is;
  recovered = ap (λ (x : Store). x.recovered) is;
  pids = λ p. ap (λ (x : Store). x.pids p) is ∙ same_pids r.last pids p below.pids;
  versions = λ v. ap (λ (x : Store). x.versions v) is ∙ same_versions r.next versions v below.versions;
  actions = ap (λ (x : Store). x.actions) is;
  faults = ap (λ (x : Store). x.faults) is;
  readable = λ p. ap (λ (x : Store). x.is_readable p) is;
}
