-- Which number and version a store gives that gives them in order.
use Rattle.std.proofs.Common.{◌≡◌, ◌≢◌, ℕ, ◌+◌, ◌<◌, ◌≤◌, Bool, true, false, nat_lt, nat_le, nat_eq, cond, refl, sym, ◌∙◌, ap, arith, ◌⊎◌, inl, inr}
use Rattle.std.proofs.lemmas.Bool.Decides.{nat_tests}
use Rattle.sled_store.specs.Update.{put_at}
use Rattle.sled_store.specs.theory.Facts.{put_here, put_elsewhere}
use Rattle.sled_store.specs.State.{Action}
use Rattle.sled_store.specs.Store.{Store, ActsAt, Allocates}
use Rattle.sled_nodes.specs.declared.node.Node.{Node}
use Rattle.sled_files.specs.Lasting.{Limits}
use Rattle.sled_files.specs.Stored.{AreWithin}
use Rattle.sled_files.specs.Raised.{ComeNext}

not_below : (x n : ℕ) → nat_lt x n ≡ false → n ≤ x
not_below x n h = grind (arith, nat_tests)

same_number : (p n : ℕ) → nat_eq p n ≡ true → p ≡ n
same_number p n h = grind (arith, nat_tests)

met_or_passed : (n x : ℕ) → n ≤ x → (x ≡ n) ⊎ (n < x)
met_or_passed n x h = elim (nat_lt n x) as (λ b. nat_lt n x ≡ b → (x ≡ n) ⊎ (n < x)) [
  | true ↦ λ e. inr (grind (arith, nat_tests))
  | false ↦ λ e. inl (let k = not_below n x e in omega arith)
] refl

-- what is given, where all below n were given and then all below another number, is n
pub given_next : (old new : ℕ → Bool) (n later x : ℕ) → old x ≡ nat_lt x n → old n ≡ nat_lt n n → new x ≡ nat_lt x later → new n ≡ nat_lt n later → old x ≡ false → new ≡ put_at old x true → x ≡ n
given_next old new n later x old_x old_n new_x new_n fresh is = go (met_or_passed n x (not_below x n (sym old_x ∙ fresh)))
  where
    passed : x < later
    passed =
        let e : nat_lt x later ≡ true = sym new_x ∙ ap (λ (f : ℕ → Bool). f x) is ∙ put_here old x true in
        grind (arith, nat_tests)

    itself : nat_lt n n ≡ false
    itself = grind (arith, nat_tests)

    go : (x ≡ n) ⊎ (n < x) → x ≡ n
    go (inl same) = same
    go (inr above) =
        let apart : n ≢ x = omega arith in
        let e : nat_lt n later ≡ false = sym new_n ∙ ap (λ (f : ℕ → Bool). f n) is ∙ put_elsewhere old x n true apart ∙ old_n ∙ itself in
        let k = not_below n later e in
        omega (arith, k, passed, above)

pub le_lt : (p g : ℕ) → nat_le p g ≡ nat_lt p (g + 1)
le_lt p g = grind (arith, nat_tests)

-- the version that a store gives that gives them in order
pub version_next : {a : Action} {s t : Store} {x : ℕ} (n later : ℕ) → ((v : ℕ) → s.versions v ≡ nat_lt v n) → ((v : ℕ) → t.versions v ≡ nat_lt v later) → ActsAt a x s t → x ≡ n
version_next {a} {s} {t} {x} n later before then h = given_next s.versions t.versions n later x (before x) (before n) (then x) (then n) h.fresh (ap (λ (k : Store). k.versions) h.is)

-- the page number and the version of a new page
pub numbers_next : {node : Node} {pid version n v : ℕ} {s t : Store} (greatest later : ℕ) → ComeNext s n v → ((p : ℕ) → 0 < p → t.pids p ≡ nat_le p greatest) → ((x : ℕ) → t.versions x ≡ nat_lt x later) → Allocates node pid version s t
    → (pid ≡ n) × (version ≡ v)
numbers_next {node} {pid} {version} {n} {v} {s} {t} greatest later c pids versions h = (
  given_next s.pids t.pids n (greatest + 1) pid (c.pids pid h.positive) (c.pids n c.positive) (pids pid h.positive ∙ le_lt pid greatest) (pids n c.positive ∙ le_lt n greatest) h.fresh_pid (ap (λ (k : Store). k.pids) h.is),
  given_next s.versions t.versions v later version (c.versions version) (c.versions v) (versions version) (versions v) h.fresh (ap (λ (k : Store). k.versions) h.is),
)

put_below : (given : ℕ → Bool) (n limit p : ℕ) → n < limit → (given p ≡ true → p < limit) → put_at given n true p ≡ true → p < limit
put_below given n limit p below other is = elim (nat_eq p n) as (λ b. nat_eq p n ≡ b → p < limit) [
  | true ↦ λ e. let k = same_number p n e in omega (arith, k, below)
  | false ↦ λ e. other (sym (ap (λ b. cond b true (given p)) e) ∙ is)
] refl

-- numbers that were given stay below the limits
module _ {limits : Limits} {s t : Store} (w : AreWithin limits s) where
  pub within_same : t.pids ≡ s.pids → t.versions ≡ s.versions → AreWithin limits t
  within_same pids versions = record {
    numbered = ap (λ (f : ℕ → Bool). f 0) pids ∙ w.numbered;
    pids = λ p positive is. w.pids p positive (sym (ap (λ (f : ℕ → Bool). f p) pids) ∙ is);
    versions = λ v is. w.versions v (sym (ap (λ (f : ℕ → Bool). f v) versions) ∙ is);
  }

  pub within_version : (n : ℕ) → n < limits.versions → t.pids ≡ s.pids → t.versions ≡ put_at s.versions n true → AreWithin limits t
  within_version n below pids versions = record {
    numbered = ap (λ (f : ℕ → Bool). f 0) pids ∙ w.numbered;
    pids = λ p positive is. w.pids p positive (sym (ap (λ (f : ℕ → Bool). f p) pids) ∙ is);
    versions = λ v is. put_below s.versions n limits.versions v below (w.versions v) (sym (ap (λ (f : ℕ → Bool). f v) versions) ∙ is);
  }

  pub within_both : (m n : ℕ) → 0 < m → m < limits.pids → n < limits.versions → t.pids ≡ put_at s.pids m true → t.versions ≡ put_at s.versions n true → AreWithin limits t
  within_both m n positive pid version pids versions = record {
    numbered = ap (λ (f : ℕ → Bool). f 0) pids ∙ put_elsewhere s.pids m 0 true (omega (arith, positive)) ∙ w.numbered;
    pids = λ p positive is. put_below s.pids m limits.pids p pid (w.pids p positive) (sym (ap (λ (f : ℕ → Bool). f p) pids) ∙ is);
    versions = λ v is. put_below s.versions n limits.versions v version (w.versions v) (sym (ap (λ (f : ℕ → Bool). f v) versions) ∙ is);
  }
