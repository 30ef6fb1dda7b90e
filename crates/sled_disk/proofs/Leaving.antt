-- What a crash leaves by numbers is one of those that it may leave.
use Rattle.std.proofs.Common.{◌≡◌, inl, inr, ⊎_elim, ℕ, ◌+◌, ◌-◌, ◌<◌, ◌≤◌, true, false, List, [], ◌∷◌, length, drop, refl, sym, subst, arith}
use Rattle.std.specs.Prelude.{min, nat_eq, nat_lt}
use Rattle.std.specs.List.{list_any}
use Rattle.std.proofs.lemmas.Bool.{cond_both, cond-true, cond-false, cases_Bool, or_parts, or_cases, and_from, eq-eqb, lt-ltb, ltb-false, both_ways, true≢false, false≢true}
use Rattle.std.proofs.lemmas.List.{take_all}
use Rattle.std.proofs.lemmas.List.FromFn.{length-map-range_with_len}
use Rattle.sled_disk.specs.Disk.{Torn, Shortened}
use Rattle.sled_disk.specs.Choices.{chosen_of}
use Rattle.sled_disk.specs.Calls.{seen_after, may_become, left_after, left_after_all, MayLeave}
use Rattle.sled_disk.specs.Chosen.{bytes_by, count_by, is_single, several_by, torn_by, shortened_by, made_by, numbers_of, is_sync, left_by}
use Rattle.sled_disk.proofs.Calls.{torn_chosen, torn_written, torn_lost, shortened_to}
use Rattle.sled_disk.specs.declared.memory.Call.{Call}
use Rattle.sled_disk.specs.declared.memory.Call.TheVariants.{Write, Cut, Sync}

pub chosen_within : (most : ℕ) (numbers : List ℕ) → chosen_of most numbers ≤ most
chosen_within most [] = omega arith
chosen_within most (number ∷ rest) = omega arith

pub length_bytes : (numbers : List ℕ) (count : ℕ) (old new : List ℕ) → length (bytes_by numbers count old new) ≡ count
length_bytes numbers count old new = length-map-range_with_len _ 0 count

not_single : (at : ℕ) (bytes file : List ℕ) → is_single at bytes file ≡ false → length bytes ≡ 1 → at < length file → ⊥
not_single at bytes file other one within = both_ways (is_single at bytes file) other (and_from (nat_eq (length bytes) 1) (nat_lt at (length file)) (eq-eqb (length bytes) 1 one) (lt-ltb at (length file) within))

several_may : (numbers : List ℕ) (at : ℕ) (bytes file : List ℕ) → is_single at bytes file ≡ false → at ≤ length file → Torn at bytes file (several_by numbers at bytes file)
several_may numbers at bytes file other le =
    let within = min (length file - at) (length bytes) in
    let count = count_by numbers at bytes file in
    let chosen = bytes_by (drop 1 numbers) count (drop at file) bytes in
    let size : length chosen ≡ count = length_bytes (drop 1 numbers) count (drop at file) bytes in
    let most : chosen_of (length bytes - within) numbers ≤ length bytes - within = chosen_within (length bytes - within) numbers in
    torn_chosen at bytes file chosen (not_single at bytes file other) le (omega (arith, size)) (omega (arith, size, most))

torn_may : (numbers : List ℕ) (at : ℕ) (bytes file : List ℕ) → Torn at bytes file (torn_by numbers at bytes file)
torn_may numbers at bytes file =
    cond_both (nat_lt (length file) at) _ _ (Torn at bytes file) (λ _. torn_lost at bytes file)
    (λ reaches. cond_both (is_single at bytes file) _ _ (Torn at bytes file)
    (λ _. cond_both (nat_eq (chosen_of 1 numbers) 0) _ _ (Torn at bytes file) (λ _. torn_written at bytes file (ltb-false (length file) at reaches)) (λ _. torn_lost at bytes file))
    (λ other. several_may numbers at bytes file other (ltb-false (length file) at reaches)))

shortened_may : (numbers : List ℕ) (n : ℕ) (file : List ℕ) → Shortened n file (shortened_by numbers n file)
shortened_may numbers n file =
    let least = min n (length file) in
    let most : chosen_of (length file - least) numbers ≤ length file - least = chosen_within (length file - least) numbers in
    shortened_to n (least + chosen_of (length file - least) numbers) file (omega arith) (omega (arith, most))

-- a call that is no sync becomes what a crash may make of it
made_may : (call : Call) (numbers seen file : List ℕ) → is_sync call ≡ false → may_become call seen file (made_by call numbers file)
made_may (Write at bytes) numbers seen file other = torn_may numbers at bytes.items file
made_may (Cut n) numbers seen file other = shortened_may numbers n file
made_may Sync numbers seen file other = absurd (true≢false other)

-- any call may be lost, and a sync makes of what was left what a read returns
lost_or_seen : (call : Call) (seen file : List ℕ) → (new : List ℕ) × may_become call seen file new
lost_or_seen (Write at bytes) seen file = (file, torn_lost at bytes.items file)
lost_or_seen (Cut n) seen file = (file, record { no_shorter = omega arith; front = sym (take_all (length file) file (omega arith)) })
lost_or_seen Sync seen file = (seen, refl)

pub synced_may : (call : Call) (seen file : List ℕ) → is_sync call ≡ true → may_become call seen file (seen_after call seen)
synced_may (Write at bytes) seen file is = absurd (false≢true is)
synced_may (Cut n) seen file is = absurd (false≢true is)
synced_may Sync seen file is = refl

-- of calls that are no syncs
chosen_may : (calls : List Call) (numbers seen file : List ℕ) (left : List ℕ → Type 0) → list_any is_sync calls ≡ false → left file → left_after_all calls seen left (left_by calls numbers file).0
chosen_may [] numbers seen file left none is = is
chosen_may (call ∷ calls) numbers seen file left none is =
    let parts = or_parts (is_sync call) (list_any is_sync calls) none in
    subst (λ (p : List ℕ × List ℕ). left_after_all calls (seen_after call seen) (left_after call seen left) p.0) (sym (cond-false (list_any is_sync (call ∷ calls)) _ _ none))
    (chosen_may calls (drop (numbers_of call numbers file) numbers) (seen_after call seen) (made_by call numbers file) (left_after call seen left) parts.1 (file, is, made_may call numbers seen file parts.0))

-- of calls among which there is a sync
settled_may : (calls : List Call) (numbers seen file : List ℕ) (left : List ℕ → Type 0) → list_any is_sync calls ≡ true → left file → left_after_all calls seen left (left_by calls numbers seen).0
settled_may [] numbers seen file left some is = absurd (false≢true some)
settled_may (call ∷ calls) numbers seen file left some is =
    let after = seen_after call seen in
    let next = left_after call seen left in
    let either = lost_or_seen call seen file in
    let rest : left_after_all calls after next (left_by calls numbers after).0 = elim (cases_Bool (list_any is_sync calls)) [
      | inl later ↦ settled_may calls numbers after either.0 next later (file, is, either.1)
      | inr none ↦ chosen_may calls numbers after after next none (file, is, synced_may call seen file (⊎_elim (λ here. here) (λ later. absurd (both_ways (list_any is_sync calls) none later)) (or_cases (is_sync call) (list_any is_sync calls) some)))
    ] in
    subst (λ (p : List ℕ × List ℕ). left_after_all calls after next p.0) (sym (cond-true (list_any is_sync (call ∷ calls)) _ _ some)) rest

-- what a crash leaves by numbers is one of those that it may leave
pub left_may : (calls : List Call) (numbers first : List ℕ) → MayLeave first calls (left_by calls numbers first).0
left_may calls numbers first = elim (cases_Bool (list_any is_sync calls)) [
  | inl some ↦ inr (settled_may calls numbers first first (λ d. d ≡ first) some refl)
  | inr none ↦ inr (chosen_may calls numbers first first (λ d. d ≡ first) none refl)
]
