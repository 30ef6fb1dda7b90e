-- What scans did, noted in order.
use Rattle.std.proofs.Common.{◌≡◌, ◌≢◌, ◌∙◌, ◌≤◌, ℕ, true, false, List, [], ◌∷◌, ◌++◌, append-nil, append_assoc, length, Result, Ok, Err, IfOk, OnErr, refl, sym, ap, subst, arith}
use Rattle.std.proofs.lemmas.List.{length-append, length-map}
use Rattle.sled_nodes.specs.declared.error.Error.{Error}
use Rattle.machine_shared.specs.Made.{EntryValue, entry_value, entry_values}
use Rattle.machine_shared.specs.Scans.{ScansValue, NotesScan, AreNoted, AreNotKept, Stops, AreInOrder, NoneMore, OneMore, noted_at}
use Rattle.machine_shared.specs.declared.scans.Scanned.{Scanned}
use Rattle.machine_shared.specs.declared.scans.ScanNote.{ScanNote}
use Rattle.machine_shared.specs.declared.entry.Entry.{Entry}

-- what was noted so far was noted at no greater length either
pub still_in_order : {a b c : ℕ} {notes : List ScanNote} → AreInOrder a notes b → b ≤ c → AreInOrder a notes c
still_in_order (NoneMore l) m = NoneMore (omega arith)
still_in_order (OneMore l rest) m = OneMore l (still_in_order rest m)

one_behind : {a b : ℕ} {notes : List ScanNote} (slot : ℕ) (d : Scanned) → AreInOrder a notes b → AreInOrder a (notes ++ record { slot = slot; at = b; did = d } ∷ []) b
one_behind slot d (NoneMore l) = OneMore l (NoneMore (omega arith))
one_behind slot d (OneMore l rest) = OneMore l (one_behind slot d rest)

all_behind : {a b : ℕ} {notes : List ScanNote} (slot : ℕ) (all : List Scanned) → AreInOrder a notes b → AreInOrder a (notes ++ noted_at slot b all) b
all_behind {a = a} {b = b} {notes = notes} slot [] r = subst (λ l. AreInOrder a l b) (sym (append-nil notes)) r
all_behind {a = a} {b = b} {notes = notes} slot (d ∷ ds) r = subst (λ l. AreInOrder a l b) (append_assoc notes (record { slot = slot; at = b; did = d } ∷ []) (noted_at slot b ds)) (all_behind slot ds (one_behind slot d r))

-- what is noted now is noted at the greatest length
pub noted_in_order : (old new : ScansValue) (slot n : ℕ) (all : List Scanned) → NotesScan old (noted_at slot n all) new → AreInOrder 0 old.notes n → AreInOrder 0 new.notes n
noted_in_order old new slot n all (AreNoted k e) r = subst (λ (s : ScansValue). AreInOrder 0 s.notes n) (sym e) (all_behind slot all r)
noted_in_order old new slot n all (AreNotKept k e) r = subst (λ (s : ScansValue). AreInOrder 0 s.notes n) (sym e) r
noted_in_order old new slot n all (Stops k l e) r = subst (λ (s : ScansValue). AreInOrder 0 s.notes n) (sym e) r

pub begun_in_order : (r : Result ℕ Error) (old new : ScansValue) (n : ℕ) (all : List Scanned) → IfOk r (λ slot. NotesScan old (noted_at slot n all) new) → OnErr r (new ≡ old) → AreInOrder 0 old.notes n → AreInOrder 0 new.notes n
begun_in_order (Ok slot) old new n all ok err r = noted_in_order old new slot n all ok r
begun_in_order (Err e) old new n all ok err r = subst (λ (s : ScansValue). AreInOrder 0 s.notes n) (sym err) r

-- .. and the history grows
pub longer_in_order : (notes : List ScanNote) (old new : List Entry) (more : List EntryValue) → entry_values new ≡ entry_values old ++ more → AreInOrder 0 notes (length old) → AreInOrder 0 notes (length new)
longer_in_order notes old new more e r =
    let one = length-map old entry_value in
    let other = length-map new entry_value in
    let sum = length-append (entry_values old) more in
    let same = ap length e in
    still_in_order r (omega arith)

-- what was noted, told by the parts of the list
pub are_noted : (old new : ScansValue) (notes : List ScanNote) → old.keeps ≡ true → new.keeps ≡ true → new.notes ≡ old.notes ++ notes → NotesScan old notes new
are_noted old new notes k e f = AreNoted k (ap (λ b. record { keeps = b; notes = new.notes }) e ∙ ap (λ n. record { keeps = true; notes = n }) f)

pub stops : (old new : ScansValue) (notes : List ScanNote) → old.keeps ≡ true → notes ≢ [] → new.keeps ≡ false → new.notes ≡ old.notes → NotesScan old notes new
stops old new notes k some e f = Stops k some (ap (λ b. record { keeps = b; notes = new.notes }) e ∙ ap (λ n. record { keeps = false; notes = n }) f)

none_noted : (slot n : ℕ) (all : List Scanned) → all ≢ [] → noted_at slot n all ≢ []
none_noted slot n [] some e = some refl
none_noted slot n (d ∷ ds) some e = cc
