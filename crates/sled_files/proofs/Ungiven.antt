-- Why a call that gives a number is refused.
use Rattle.std.proofs.Common.{◌≡◌, ◌∙◌, ℕ, ◌+◌, ◌-◌, ◌^◌, ◌<◌, ◌≤◌, ◌⊎◌, inl, inr, true, nat_lt, arith, subst}
use Rattle.std.proofs.lemmas.Bool.Decides.{nat_tests}
use Rattle.std.specs.Prelude.{Result, Ok, Err, IfErr}
use Rattle.sled_nodes.specs.declared.error.Error.{Error}
use Rattle.sled_store.specs.Store.{Store, IsRefused}
use Rattle.sled_pages.specs.declared.memory.MemPages.{MemPages}
use Rattle.sled_pages.specs.Memory.{store_of}
use Rattle.sled_files.specs.Raised.{ComeNext, raised_to}
use Rattle.sled_files.specs.Stored.{Stored}
use Rattle.sled_files.specs.Codes.{AreUsedUp, is_why_ungiven}

below : (q n : ℕ) → q < 2 ^ 64 - 1 → 2 ^ 64 - 1 ≤ n → nat_lt q n ≡ true
below q n lt high = let k : q < n = omega (arith, lt, high) in grind (arith, nat_tests)

-- where a limit is no higher than what comes next, though it was raised
pub used_up_at : {s : Store} {pid version : ℕ} (pids versions : ℕ) → ComeNext s pid version → (raised_to pids pid ≤ pid) ⊎ (raised_to versions version ≤ version) → AreUsedUp s
used_up_at {s} {pid} {version} pids versions next (inl low) = inl (λ q positive lt. next.pids q positive ∙ below q pid lt (omega (arith, low)))
used_up_at {s} {pid} {version} pids versions next (inr low) = inr (λ q lt. next.versions q ∙ below q version lt (omega (arith, low)))

-- what the pages in memory refuse after a number was reached, which leaves them and the count of faults as they are
pub ungiven_in_memory : {T D : Type 0} (faults : D → ℕ) (old new : Stored D) (pages : MemPages) (counted : ℕ) (r : Result T Error) → pages ≡ old.pages → counted + (store_of pages).faults ≡ old.faults + (store_of old.pages).faults → new.faults ≡ counted → IfErr r (λ e. IsRefused e (store_of pages) (store_of new.pages)) → IfErr r (λ e. is_why_ungiven faults old new e)
ungiven_in_memory faults old new pages counted (Ok x) same before calm h = h
ungiven_in_memory faults old new pages counted (Err e) same before calm h =
    let equal : counted + (store_of old.pages).faults ≡ old.faults + (store_of old.pages).faults = subst (λ (p : MemPages). counted + (store_of p).faults ≡ old.faults + (store_of old.pages).faults) same before in
    inr (record { is = subst (λ (p : MemPages). IsRefused e (store_of p) (store_of new.pages)) same h; calm = calm ∙ omega (arith, equal) })
