-- Each outcome that a disk in memory may leave is left by some numbers.
use Rattle.std.proofs.Common.{◌≡◌, inl, inr, ⊎_elim, ℕ, ◌+◌, ◌-◌, ◌^◌, ◌<◌, ◌≤◌, suc, true, false, List, [], ◌∷◌, ◌++◌, length, take, drop, map, get_or, Vec, refl, sym, ◌∙◌, ap, subst, arith, append_assoc, length-append, length-take-le, length-drop, drop-cons, zero-add}
use Rattle.std.specs.Prelude.{min, nat_eq, nat_lt, slice_index, if◌then◌else◌}
use Rattle.std.specs.List.{list_any, All}
use Rattle.std.proofs.Math.Nat.{mod-eq_of_lt}
use Rattle.std.proofs.lemmas.Bool.{cond-true, cond-false, cases_Bool, cases_lt, or_parts, or_cases, and_parts, eqb-true, ne_eqb, ltb-true, lt-ltb, le-ltb, both_ways, true≢false, false≢true}
use Rattle.std.proofs.lemmas.List.{take_all, drop_at, drop_all, take-append-drop, drop-drop, take-map, drop-map, map-append, length-map, length-take, ext_get_or, get_or-map, get_or_append_left}
use Rattle.std.proofs.lemmas.List.Elements.{All-nil, All-cons, All-append, All-map, All-take, All-drop, All-weaker, All-get_or}
use Rattle.std.proofs.lemmas.List.Folds.{map_fixed}
use Rattle.std.proofs.lemmas.List.FromFn.{get_or-map-range_with_len}
use Rattle.std.specs.declared.alloc.Global.{Global}
use Rattle.sled_disk.specs.Disk.{written, Torn, Shortened}
use Rattle.sled_disk.specs.Choices.{chosen_of}
use Rattle.sled_disk.specs.Calls.{seen_after, may_become, left_after, seen_after_all, left_after_all, MayLeave, IsFile, WritesFit}
use Rattle.sled_disk.specs.Chosen.{byte_by, bytes_by, count_by, is_single, several_by, made_by, numbers_of, is_sync, left_by}
use Rattle.sled_disk.proofs.Calls.{torn_written}
use Rattle.sled_disk.proofs.Leaving.{length_bytes}
use Rattle.sled_disk.proofs.Fitting.{Fits, FitAll, all_fit, stays}
use Rattle.sled_disk.specs.declared.memory.Call.{Call}
use Rattle.sled_disk.specs.declared.memory.Call.TheVariants.{Write, Cut, Sync}

abbrev AreBytes : List ℕ → Type 0
AreBytes = All (λ b. b < 256)

abbrev AreNumbers : List ℕ → Type 0
AreNumbers = All (λ n. n < 2 ^ 64)

-- the file with 255 in place of each number that is no byte
abbrev as_bytes : List ℕ → List ℕ
as_bytes file = map (λ b. min b 255) file

bytes_stay : (file : List ℕ) → AreBytes file → as_bytes file ≡ file
bytes_stay file low = map_fixed (λ b. min b 255) file (All-weaker (λ b. b < 256) (λ b. min b 255 ≡ b) (λ b lt. omega (arith, lt)) file low)

low_bytes : (file : List ℕ) → AreBytes (as_bytes file)
low_bytes file = All-map (λ b. b < 256) (λ b. min b 255) file (λ k d lt. omega arith)

-- a write stays one that a crash may make if what is no byte gives way
torn_bytes : (at : ℕ) (bytes old new : List ℕ) → AreBytes bytes → Torn at bytes old new → Torn at bytes (as_bytes old) (as_bytes new)
torn_bytes at bytes old new low t =
    let f = λ (b : ℕ). min b 255 in
    let n = at + length bytes in
    let made : as_bytes (written at bytes old) ≡ written at bytes (as_bytes old) =
    map-append f (take at old ++ bytes) (drop n old)
    ∙ ap (λ (l : List ℕ). l ++ as_bytes (drop n old)) (map-append f (take at old) bytes)
    ∙ ap (λ (l : List ℕ). l ++ as_bytes bytes ++ as_bytes (drop n old)) (sym (take-map f at old))
    ∙ ap (λ (l : List ℕ). take at (as_bytes old) ++ l ++ as_bytes (drop n old)) (bytes_stay bytes low)
    ∙ ap (λ (l : List ℕ). take at (as_bytes old) ++ bytes ++ l) (sym (drop-map f n old)) in
    record {
      before = take-map f at new ∙ ap as_bytes t.before ∙ sym (take-map f at old);
      after = drop-map f n new ∙ ap as_bytes t.after ∙ sym (drop-map f n old);
      no_shorter = omega (arith, t.no_shorter, length-map new f, length-map old f);
      no_longer = omega (arith, t.no_longer, length-map new f, length-map old f);
      single = λ one within. elim (t.single one (omega (arith, within, length-map old f))) [
        | inl lost ↦ inl (ap as_bytes lost)
        | inr whole ↦ inr (ap as_bytes whole ∙ made)
      ];
    }

shortened_bytes : (n : ℕ) (old new : List ℕ) → Shortened n old new → Shortened n (as_bytes old) (as_bytes new)
shortened_bytes n old new s =
    let f = λ (b : ℕ). min b 255 in
    record {
      no_shorter = omega (arith, s.no_shorter, length-map new f, length-map old f);
      front = ap as_bytes s.front ∙ sym (take-map f (length new) old) ∙ ap (λ (k : ℕ). take k (as_bytes old)) (sym (length-map new f));
    }

-- numbers by which a call becomes this, whatever numbers follow them
record Chooses (call : Call) (old new : List ℕ) : Type 0 where
  numbers : List ℕ
  fit : AreNumbers numbers
  makes : (rest : List ℕ) → made_by call (numbers ++ rest) old ≡ new
  used : (rest : List ℕ) → drop (numbers_of call (numbers ++ rest) old) (numbers ++ rest) ≡ rest

-- the first of some numbers, where it is no larger than the largest that may be chosen
first_chosen : (most number : ℕ) (rest : List ℕ) → number ≤ most → chosen_of most (number ∷ rest) ≡ number
first_chosen most number rest le = mod-eq_of_lt (omega (arith, le))

any_byte : (b old new : ℕ) → byte_by (suc (suc b)) old new ≡ b
any_byte b old new =
    cond-false (nat_eq (suc (suc b)) 0) _ _ (ne_eqb (suc (suc b)) 0 (λ same. omega (arith, same)))
    ∙ cond-false (nat_eq (suc (suc b)) 1) _ _ (ne_eqb (suc (suc b)) 1 (λ same. omega (arith, same)))
    ∙ omega arith

next_byte : (b old new : ℕ) (numbers rest : List ℕ) → numbers ≡ suc (suc b) ∷ rest → b < 256 → byte_by (chosen_of 257 numbers) old new ≡ b
next_byte b old new numbers rest is low =
    ap (λ (l : List ℕ). byte_by (chosen_of 257 l) old new) is
    ∙ ap (λ (n : ℕ). byte_by n old new) (first_chosen 257 (suc (suc b)) rest (omega (arith, low)))
    ∙ any_byte b old new

abbrev spelled : List ℕ → List ℕ
spelled bytes = map (λ b. suc (suc b)) bytes

-- any bytes are chosen
any_bytes : (bytes rest old new : List ℕ) → AreBytes bytes → bytes_by (spelled bytes ++ rest) (length bytes) old new ≡ bytes
any_bytes bytes rest old new low =
    let count = length bytes in
    let numbers = spelled bytes ++ rest in
    let chosen = bytes_by numbers count old new in
    let size : length chosen ≡ count = length_bytes numbers count old new in
    ext_get_or 0 chosen bytes size (λ i lt.
    let within : i < count = omega (arith, lt, size) in
    let there : i < length (spelled bytes) = omega (arith, within, length-map bytes (λ (b : ℕ). suc (suc b))) in
    let b = get_or bytes i 0 in
    let head : get_or numbers i 0 ≡ suc (suc b) = get_or_append_left (spelled bytes) rest 0 i there ∙ get_or-map (λ (c : ℕ). suc (suc c)) bytes i 0 0 within in
    let begins : drop i numbers ≡ suc (suc b) ∷ drop (suc i) numbers =
    drop-cons numbers i 0 (omega (arith, there, length-append (spelled bytes) rest)) ∙ ap (λ (n : ℕ). n ∷ drop (suc i) numbers) head in
    get_or-map-range_with_len (λ (j : ℕ). byte_by (chosen_of 257 (drop j numbers)) (slice_index old j) (slice_index new j)) 0 count i i 0 within (zero-add i)
    ∙ next_byte b (slice_index old i) (slice_index new i) (drop i numbers) (drop (suc i) numbers) begins (All-get_or (λ c. c < 256) bytes i 0 within low))

-- behind the end of a file nothing is written
torn_behind : (at : ℕ) (bytes old new : List ℕ) → length old < at → Torn at bytes old new → old ≡ new
torn_behind at bytes old new behind t =
    let same : take at new ≡ old = t.before ∙ take_all at old (omega (arith, behind)) in
    let size : length (take at new) ≡ length old = ap (λ (l : List ℕ). length l) same in
    sym same ∙ take_all at new (omega (arith, size, length-take at new, behind))

module _ (at : ℕ) (v : Vec ℕ Global) (old new : List ℕ) (low : AreBytes new) (small : at + length v.items < 2 ^ 64) (t : Torn at v.items old new) where
  lost_behind : length old < at → Chooses (Write at v) old new
  lost_behind behind =
      let test : nat_lt (length old) at ≡ true = lt-ltb (length old) at behind in
      record {
        numbers = [];
        fit = All-nil (λ n. n < 2 ^ 64);
        makes = λ rest. cond-true (nat_lt (length old) at) _ _ test ∙ torn_behind at v.items old new behind t;
        used = λ rest. ap (λ (n : ℕ). drop n rest) (cond-true (nat_lt (length old) at) _ _ test);
      }

  module _ (le : at ≤ length old) where
    reaches : nat_lt (length old) at ≡ false
    reaches = le-ltb (length old) at le

    of_one : is_single at v.items old ≡ true → (k : ℕ) → k ≤ 1 → ((rest : List ℕ) → (if nat_eq (chosen_of 1 (k ∷ rest)) 0 then written at v.items old else old) ≡ new) → Chooses (Write at v) old new
    of_one is k le-one becomes = record {
      numbers = k ∷ [];
      fit = All-cons (λ n. n < 2 ^ 64) k [] (omega (arith, le-one)) (All-nil (λ n. n < 2 ^ 64));
      makes = λ rest. cond-false (nat_lt (length old) at) _ _ reaches ∙ cond-true (is_single at v.items old) _ _ is ∙ becomes rest;
      used = λ rest. ap (λ (n : ℕ). drop n (k ∷ rest)) (cond-false (nat_lt (length old) at) _ _ reaches ∙ cond-true (is_single at v.items old) _ _ is);
    }

    one_byte : is_single at v.items old ≡ true → Chooses (Write at v) old new
    one_byte is =
        let both = and_parts (nat_eq (length v.items) 1) (nat_lt at (length old)) is in
        elim (t.single (eqb-true (length v.items) 1 both.0) (ltb-true at (length old) both.1)) [
          | inl lost ↦ of_one is 1 (omega arith) (λ rest. sym lost)
          | inr whole ↦ of_one is 0 (omega arith) (λ rest. sym whole)
        ]

    abbrev within : ℕ
    within = min (length old - at) (length v.items)

    abbrev over : ℕ
    over = length new - length old

    over_fits : over ≤ length v.items - within
    over_fits = omega (arith, t.no_longer, t.no_shorter, le)

    abbrev middle : List ℕ
    middle = take (within + over) (drop at new)

    middle_size : length middle ≡ within + over
    middle_size = length-take-le (within + over) (drop at new) (omega (arith, length-drop at new, t.no_longer, t.no_shorter, le))

    behind : drop (within + over) (drop at new) ≡ drop (at + length v.items) old
    behind = drop-drop (within + over) at new ∙ elim (cases_lt (length old) (at + length v.items)) [
      | inl short ↦ drop_all (at + (within + over)) new (omega (arith, short, t.no_longer, t.no_shorter, le)) ∙ sym (drop_all (at + length v.items) old (omega (arith, short)))
      | inr long ↦ ap (λ (n : ℕ). drop n new) (omega (arith, long, t.no_longer, t.no_shorter, le)) ∙ t.after
    ]

    parts : take at old ++ middle ++ drop (at + length v.items) old ≡ new
    parts =
        ap (λ (l : List ℕ). take at old ++ middle ++ l) (sym behind)
        ∙ append_assoc (take at old) middle (drop (within + over) (drop at new))
        ∙ ap (λ (l : List ℕ). take at old ++ l) (take-append-drop (within + over) (drop at new))
        ∙ ap (λ (l : List ℕ). l ++ drop at new) (sym t.before)
        ∙ take-append-drop at new

    abbrev all_numbers : List ℕ
    all_numbers = over ∷ spelled middle

    counted : (rest : List ℕ) → count_by (all_numbers ++ rest) at v.items old ≡ within + over
    counted rest = ap (λ (n : ℕ). within + n) (first_chosen (length v.items - within) over (spelled middle ++ rest) over_fits)

    several_made : (rest : List ℕ) → several_by (all_numbers ++ rest) at v.items old ≡ new
    several_made rest =
        ap (λ (n : ℕ). take at old ++ bytes_by (spelled middle ++ rest) n (drop at old) v.items ++ drop (at + length v.items) old) (counted rest ∙ sym middle_size)
        ∙ ap (λ (l : List ℕ). take at old ++ l ++ drop (at + length v.items) old) (any_bytes middle rest (drop at old) v.items (All-take (λ b. b < 256) (within + over) (drop at new) (All-drop (λ b. b < 256) at new low)))
        ∙ parts

    several_bytes : is_single at v.items old ≡ false → Chooses (Write at v) old new
    several_bytes other = record {
      numbers = all_numbers;
      fit = All-cons (λ n. n < 2 ^ 64) over (spelled middle) (omega (arith, over_fits, small)) (All-map (λ n. n < 2 ^ 64) (λ b. suc (suc b)) middle
          (All-weaker (λ b. b < 256) (λ b. suc (suc b) < 2 ^ 64) (λ b lt. omega (arith, lt)) middle (All-take (λ b. b < 256) (within + over) (drop at new) (All-drop (λ b. b < 256) at new low))));
      makes = λ rest. cond-false (nat_lt (length old) at) _ _ reaches ∙ cond-false (is_single at v.items old) _ _ other ∙ several_made rest;
      used = λ rest.
          ap (λ (n : ℕ). drop n (all_numbers ++ rest)) (cond-false (nat_lt (length old) at) _ _ reaches ∙ cond-false (is_single at v.items old) _ _ other ∙ ap (λ (n : ℕ). 1 + n) (counted rest))
          ∙ drop_at all_numbers rest (1 + (within + over)) (omega (arith, middle_size, length-map middle (λ (b : ℕ). suc (suc b))));
    }

  write_chosen : Chooses (Write at v) old new
  write_chosen = elim (cases_lt (length old) at) [
    | inl behind ↦ lost_behind behind
    | inr le ↦ elim (cases_Bool (is_single at v.items old)) [
      | inl one ↦ one_byte le one
      | inr other ↦ several_bytes le other
    ]
  ]

cut_chosen : (n : ℕ) (old new : List ℕ) → length old < 2 ^ 64 → Shortened n old new → Chooses (Cut n) old new
cut_chosen n old new small s =
    let least = min n (length old) in
    let number = length new - least in
    let shorter : length new ≤ length old = omega (arith, ap (λ (l : List ℕ). length l) s.front, length-take (length new) old) in
    record {
      numbers = number ∷ [];
      fit = All-cons (λ k. k < 2 ^ 64) number [] (omega (arith, shorter, small)) (All-nil (λ k. k < 2 ^ 64));
      makes = λ rest.
          ap (λ (k : ℕ). take (least + k) old) (first_chosen (length old - least) number rest (omega (arith, shorter)))
          ∙ ap (λ (k : ℕ). take k old) (omega (arith, s.no_shorter)) ∙ sym s.front;
      used = λ rest. refl;
    }

-- a call that is no sync becomes by some numbers what it may become
call_chosen : (call : Call) (seen old new : List ℕ) → is_sync call ≡ false → Fits call seen → length old < 2 ^ 64 → may_become call seen old new → Chooses call (as_bytes old) (as_bytes new)
call_chosen (Write at v) seen old new other fits small becomes = write_chosen at v (as_bytes old) (as_bytes new) (low_bytes new) fits.size (torn_bytes at v.items old new fits.low becomes)
call_chosen (Cut n) seen old new other fits small becomes = cut_chosen n (as_bytes old) (as_bytes new) (omega (arith, small, length-map old (λ (b : ℕ). min b 255))) (shortened_bytes n old new becomes)
call_chosen Sync seen old new other fits small becomes = absurd (true≢false other)

-- no outcome is too long
stays_small : (call : Call) (seen old new : List ℕ) → is_sync call ≡ false → Fits call seen → length old < 2 ^ 64 → may_become call seen old new → length new < 2 ^ 64
stays_small (Write at v) seen old new other fits small becomes = omega (arith, becomes.no_longer, fits.size, small)
stays_small (Cut n) seen old new other fits small becomes = omega (arith, ap (λ (l : List ℕ). length l) becomes.front, length-take (length new) old, small)
stays_small Sync seen old new other fits small becomes = absurd (true≢false other)

-- after a sync there is what a read returns
synced_is : (call : Call) (seen old new : List ℕ) → is_sync call ≡ true → may_become call seen old new → new ≡ seen_after call seen
synced_is (Write at v) seen old new is becomes = absurd (false≢true is)
synced_is (Cut n) seen old new is becomes = absurd (false≢true is)
synced_is Sync seen old new is becomes = becomes

-- an outcome, and a file from which numbers lead to it
record From (calls : List Call) (left : List ℕ → Type 0) (c : List ℕ) : Type 0 where
  file : List ℕ
  was : left file
  numbers : List ℕ
  fit : AreNumbers numbers
  chosen : (left_by calls numbers (as_bytes file)).0 ≡ as_bytes c

-- numbers of the first of some calls, and then those of the others
joined : (call : Call) (calls : List Call) (all rest old between c : List ℕ) → list_any is_sync (call ∷ calls) ≡ false → drop (numbers_of call all old) all ≡ rest → made_by call all old ≡ between → (left_by calls rest between).0 ≡ c → (left_by (call ∷ calls) all old).0 ≡ c
joined call calls all rest old between c none used made later =
    ap (λ (p : List ℕ × List ℕ). p.0) (cond-false (list_any is_sync (call ∷ calls)) _ _ none)
    ∙ ap (λ (l : List ℕ). (left_by calls l (made_by call all old)).0) used
    ∙ ap (λ (l : List ℕ). (left_by calls rest l).0) made
    ∙ later

-- of calls that are no syncs
unsynced : (calls : List Call) (seen c : List ℕ) (left : List ℕ → Type 0) → list_any is_sync calls ≡ false → FitAll calls seen → ((d : List ℕ) → left d → length d < 2 ^ 64) → left_after_all calls seen left c → From calls left c
unsynced [] seen c left none fits small is = record { file = c; was = is; numbers = []; fit = All-nil (λ n. n < 2 ^ 64); chosen = refl }
unsynced (call ∷ calls) seen c left none fits small is =
    let parts = or_parts (is_sync call) (list_any is_sync calls) none in
    let later = unsynced calls (seen_after call seen) c (left_after call seen left) parts.1 fits.1
    (λ d before. stays_small call seen before.0 d parts.0 fits.0 (small before.0 before.1) before.2) is in
    let before = later.was in
    let chooses = call_chosen call seen before.0 later.file parts.0 fits.0 (small before.0 before.1) before.2 in
    let old = as_bytes before.0 in
    let all = chooses.numbers ++ later.numbers in
    record {
      file = before.0;
      was = before.1;
      numbers = all;
      fit = All-append (λ n. n < 2 ^ 64) chooses.numbers later.numbers chooses.fit later.fit;
      chosen = joined call calls all later.numbers old (as_bytes later.file) (as_bytes c) none (chooses.used later.numbers) (chooses.makes later.numbers) later.chosen;
    }

record Left (calls : List Call) (seen c : List ℕ) : Type 0 where
  numbers : List ℕ
  fit : AreNumbers numbers
  chosen : (left_by calls numbers seen).0 ≡ as_bytes c

-- of calls that are no syncs, from one file alone
from_one : (calls : List Call) (seen c : List ℕ) (left : List ℕ → Type 0) → list_any is_sync calls ≡ false → FitAll calls seen → IsFile seen → ((d : List ℕ) → left d → d ≡ seen) → left_after_all calls seen left c → Left calls seen c
from_one calls seen c left none fits file only is =
    let from = unsynced calls seen c left none fits (λ d was. subst (λ (l : List ℕ). length l < 2 ^ 64) (sym (only d was)) file.size) is in
    let same : as_bytes from.file ≡ seen = ap as_bytes (only from.file from.was) ∙ bytes_stay seen file.low in
    record { numbers = from.numbers; fit = from.fit; chosen = subst (λ (l : List ℕ). (left_by calls from.numbers l).0 ≡ as_bytes c) same from.chosen }

before_sync : (call : Call) (calls : List Call) (numbers seen : List ℕ) → list_any is_sync (call ∷ calls) ≡ true → (left_by (call ∷ calls) numbers seen).0 ≡ (left_by calls numbers (seen_after call seen)).0
before_sync call calls numbers seen some = ap (λ (p : List ℕ × List ℕ). p.0) (cond-true (list_any is_sync (call ∷ calls)) _ _ some)

-- of calls among which there is a sync
settled : (calls : List Call) (seen c : List ℕ) (left : List ℕ → Type 0) → list_any is_sync calls ≡ true → FitAll calls seen → IsFile seen → left_after_all calls seen left c → Left calls seen c
settled [] seen c left some fits file is = absurd (false≢true some)
settled (call ∷ calls) seen c left some fits file is =
    let after = seen_after call seen in
    let next = left_after call seen left in
    let still : IsFile after = stays call seen fits.0 file in
    let rest : Left calls after c = elim (cases_Bool (list_any is_sync calls)) [
      | inl later ↦ settled calls after c next later fits.1 still is
      | inr none ↦
          let here : is_sync call ≡ true = ⊎_elim (λ now. now) (λ later. absurd (both_ways (list_any is_sync calls) none later)) (or_cases (is_sync call) (list_any is_sync calls) some) in
          from_one calls after c next none fits.1 still (λ d before. synced_is call seen before.0 d here before.2) is
    ] in
    record { numbers = rest.numbers; fit = rest.fit; chosen = before_sync call calls rest.numbers seen some ∙ rest.chosen }

-- a call may be made whole
whole : (call : Call) (seen : List ℕ) → Fits call seen → may_become call seen seen (seen_after call seen)
whole (Write at v) seen fits = torn_written at v.items seen fits.within
whole (Cut n) seen fits = record {
  no_shorter = omega (arith, length-take n seen);
  front = elim (cases_lt (length seen) n) [
    | inl short ↦ sym (take_all (length (take n seen)) (take n seen) (omega arith)) ∙ ap (λ (l : List ℕ). take (length (take n seen)) l) (take_all n seen (omega (arith, short)))
    | inr long ↦ ap (λ (k : ℕ). take k seen) (sym (length-take-le n seen long))
  ];
}
whole Sync seen fits = refl

all_whole : (calls : List Call) (seen : List ℕ) (left : List ℕ → Type 0) → FitAll calls seen → left seen → left_after_all calls seen left (seen_after_all calls seen)
all_whole [] seen left fits is = is
all_whole (call ∷ calls) seen left fits is = all_whole calls (seen_after call seen) (left_after call seen left) fits.1 (seen, is, whole call seen fits.0)

one_left : (calls : List Call) (first c : List ℕ) → IsFile first → FitAll calls first → left_after_all calls first (λ d. d ≡ first) c → Left calls first c
one_left calls first c file fits is = elim (cases_Bool (list_any is_sync calls)) [
  | inl some ↦ settled calls first c (λ d. d ≡ first) some fits file is
  | inr none ↦ from_one calls first c (λ d. d ≡ first) none fits file (λ d same. same) is
]

may_all : (calls : List Call) (first c : List ℕ) → IsFile first → FitAll calls first → MayLeave first calls c → Left calls first c
may_all calls first c file fits (inl now) = one_left calls first c file fits (subst (left_after_all calls first (λ d. d ≡ first)) (sym now) (all_whole calls first (λ d. d ≡ first) fits refl))
may_all calls first c file fits (inr left) = one_left calls first c file fits left

pub all_chosen : (calls : List Call) (first c : List ℕ) → IsFile first → WritesFit calls first → MayLeave first calls c → AreBytes c → (numbers : List ℕ) × AreNumbers numbers × ((left_by calls numbers first).0 ≡ c)
all_chosen calls first c file fits may low =
    let left = may_all calls first c file (all_fit calls first fits) may in
    (left.numbers, left.fit, left.chosen ∙ bytes_stay c low)
