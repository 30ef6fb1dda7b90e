-- The loop over entries: those that were read so far and those that are left are all.
use Rattle.std.proofs.Common.{◌≡◌, ℕ, suc, ◌+◌, ◌-◌, ◌<◌, ◌≤◌, List, [], ◌∷◌, ◌++◌, Ok, Err, refl, sym, ap, ◌∙◌, append_assoc, arith}
use Rattle.std.proofs.lemmas.List.{append-nil}
use Rattle.sled_bytes.specs.declared.refusal.Refusal.{Refusal}
use Rattle.sled_bytes.specs.declared.refusal.Refusal.TheVariants as refusals
use Rattle.sled_bytes.specs.Reading.{Read, Fails, then_read, each_at}

-- what was read before, in front of what is read
abbrev pub with_front : {X : Type 0} → List X → Read (List X) → Read (List X)
with_front front (Ok x) = Ok (front ++ x.0, x.1)
with_front front (Err flaw) = Err flaw

regroup : {X : Type 0} (front : List X) (x : X) (others : Read (List X)) → with_front front (then_read others (λ r. Ok (x ∷ r.0, r.1))) ≡ with_front (front ++ x ∷ []) others
regroup {X} front x (Ok r) = ap (λ (l : List X). Ok (l, r.1)) (sym (append_assoc front (x ∷ []) r.0))
regroup front x (Err flaw) = refl

pub goes_on : {X : Type 0} (one : List ℕ → Read X) (front : List X) (count i : ℕ) (bytes behind : List ℕ) (x : X) (all : Read (List X)) → i < count → one bytes ≡ Ok (x, behind)
    → with_front front (each_at one (count - i) bytes) ≡ all → with_front (front ++ x ∷ []) (each_at one (count - (i + 1)) behind) ≡ all
unfolding each_at
goes_on {X} one front count i bytes behind x all lt read so_far =
    let k : count - i ≡ suc (count - (i + 1)) = omega arith in
    let first : each_at one (suc (count - (i + 1))) bytes ≡ (then_read (each_at one (count - (i + 1)) behind) (λ r. Ok (x ∷ r.0, r.1))) = ap (λ (r : Read X). then_read r (λ first. then_read (each_at one (count - (i + 1)) first.1) (λ others. Ok (first.0 ∷ others.0, others.1)))) read in
    sym (regroup front x (each_at one (count - (i + 1)) behind)) ∙ (ap (with_front front) (sym (ap (λ (n : ℕ). each_at one n bytes) k ∙ first)) ∙ so_far)

pub ends : {X : Type 0} (one : List ℕ → Read X) (e : Refusal) (front : List X) (count i : ℕ) (bytes : List ℕ) (all : Read (List X)) → i < count → Fails e (one bytes)
    → with_front front (each_at one (count - i) bytes) ≡ all → Fails e all
unfolding each_at
ends one refusals.NoMemory front count i bytes all lt failed so_far = tt
ends {X} one (refusals.Flawed flaw) front count i bytes all lt failed so_far =
    let k : count - i ≡ suc (count - (i + 1)) = omega arith in
    let first : each_at one (suc (count - (i + 1))) bytes ≡ Err flaw = ap (λ (r : Read X). then_read r (λ first. then_read (each_at one (count - (i + 1)) first.1) (λ others. Ok (first.0 ∷ others.0, others.1)))) failed in
    sym so_far ∙ ap (with_front front) (ap (λ (n : ℕ). each_at one n bytes) k ∙ first)

pub is_done : {X : Type 0} (one : List ℕ → Read X) (front : List X) (count i : ℕ) (bytes : List ℕ) (all : Read (List X)) → count ≤ i → with_front front (each_at one (count - i) bytes) ≡ all → all ≡ Ok (front, bytes)
unfolding each_at
is_done {X} one front count i bytes all le so_far =
    let k : count - i ≡ 0 = omega arith in
    sym so_far ∙ (ap (λ (n : ℕ). with_front front (each_at one n bytes)) k ∙ ap (λ (l : List X). Ok (l, bytes)) (append-nil front))
