-- The loop over changes: those that were read so far and those that are left are all.
use Rattle.std.proofs.Common.{◌≡◌, ℕ, suc, ◌+◌, ◌-◌, ◌<◌, List, [], ◌∷◌, ◌++◌, length, Ok, Err, Result, refl, sym, ap, ◌∙◌, append_assoc, arith}
use Rattle.std.proofs.lemmas.List.{append-nil, length-append}
use Rattle.sled_bytes.specs.declared.change.Change.{Change}
use Rattle.sled_bytes.specs.declared.refusal.Flaw.{Flaw}
use Rattle.sled_bytes.specs.declared.refusal.Refusal.{Refusal}
use Rattle.sled_bytes.specs.declared.refusal.Refusal.TheVariants as refusals
use Rattle.sled_bytes.specs.Reading.{Read, Fails, then_read, byte_at, change_at, changes_from, changes_of}

-- what was read before, in front of what is read
abbrev pub behind_front : List Change → Result (List Change) Flaw → Result (List Change) Flaw
behind_front front (Ok cs) = Ok (front ++ cs)
behind_front front (Err flaw) = Err flaw

regroup : (front : List Change) (c : Change) (others : Result (List Change) Flaw) → behind_front front (then_read others (λ cs. Ok (c ∷ cs))) ≡ behind_front (front ++ c ∷ []) others
regroup front c (Ok cs) = ap (λ (l : List Change). Ok l) (sym (append_assoc front (c ∷ []) cs))
regroup front c (Err flaw) = refl

-- where a change is read first, the others are behind it
pub one_more : (bytes behind : List ℕ) (c : Change) (most : ℕ) → change_at bytes ≡ Ok (c, behind) → changes_from bytes (suc most) ≡ (then_read (changes_from behind most) (λ cs. Ok (c ∷ cs)))
unfolding changes_from change_at byte_at
one_more [] behind c most read = absurd cc
one_more (b ∷ bytes) behind c most read = ap (λ (r : Read Change). then_read r (λ first. then_read (changes_from first.1 most) (λ others. Ok (first.0 ∷ others)))) read

pub changes_go_on : (front new : List Change) (bytes behind : List ℕ) (c : Change) (most : ℕ) (all : Result (List Change) Flaw) → length front < most → change_at bytes ≡ Ok (c, behind) → new ≡ front ++ c ∷ []
    → behind_front front (changes_from bytes (most - length front)) ≡ all → behind_front new (changes_from behind (most - length new)) ≡ all
changes_go_on front new bytes behind c most all lt read pushed so_far =
    let longer : length new ≡ length front + 1 = ap length pushed ∙ length-append front (c ∷ []) in
    let left : most - length front ≡ suc (most - length new) = omega arith in
    ap (λ (l : List Change). behind_front l (changes_from behind (most - length new))) pushed
    ∙ (sym (regroup front c (changes_from behind (most - length new))) ∙ (ap (behind_front front) (sym (ap (changes_from bytes) left ∙ one_more bytes behind c (most - length new) read)) ∙ so_far))

failed : (bytes : List ℕ) (flaw : Flaw) (most : ℕ) → 0 < length bytes → change_at bytes ≡ Err flaw → changes_from bytes (suc most) ≡ Err flaw
unfolding changes_from
failed [] flaw most some read = absurd (omega arith)
failed (b ∷ bytes) flaw most some read = ap (λ (r : Read Change). then_read r (λ first. then_read (changes_from first.1 most) (λ others. Ok (first.0 ∷ others)))) read

pub changes_end : (front : List Change) (e : Refusal) (bytes : List ℕ) (most : ℕ) (all : Result (List Change) Flaw) → length front < most → 0 < length bytes → Fails e (change_at bytes)
    → behind_front front (changes_from bytes (most - length front)) ≡ all → Fails e all
changes_end front refusals.NoMemory bytes most all lt some fails so_far = tt
changes_end front (refusals.Flawed flaw) bytes most all lt some fails so_far =
    let left : most - length front ≡ suc (most - length front - 1) = omega arith in
    sym so_far ∙ ap (behind_front front) (ap (changes_from bytes) left ∙ failed bytes flaw (most - length front - 1) some fails)

pub changes_done : (front : List Change) (bytes : List ℕ) (most : ℕ) (all : Result (List Change) Flaw) → bytes ≡ [] → behind_front front (changes_from bytes most) ≡ all → all ≡ Ok front
unfolding changes_from
changes_done front bytes most all none so_far =
    sym so_far ∙ (ap (λ (l : List ℕ). behind_front front (changes_from l most)) none ∙ ap (λ (l : List Change). Ok l) (append-nil front))

pub changes_begin : (front : List Change) (bytes : List ℕ) → front ≡ [] → behind_front front (changes_from bytes (length bytes - length front)) ≡ changes_of bytes
unfolding changes_of
changes_begin front bytes none =
    let most : length bytes - length front ≡ length bytes = omega (arith, ap length none) in
    ap (λ (l : List Change). behind_front l (changes_from bytes (length bytes - length front))) none ∙ (same (changes_from bytes (length bytes - length front)) ∙ ap (changes_from bytes) most)
  where
    same : (r : Result (List Change) Flaw) → behind_front [] r ≡ r
    same (Ok cs) = refl
    same (Err flaw) = refl
