-- Actions taken back one by one.
use Rattle.std.proofs.Common.{◌≡◌, ℕ, zero, suc, ◌+◌, ◌<◌, ◌≤◌, ◌⊎◌, inl, inr, Bool, true, List, [], ◌∷◌, ◌++◌, length, take, Option, refl, sym, ap, ◌∙◌, arith, length-append}
use mathlib.Core.List.{reverse}
use Rattle.std.specs.List.{list_all}
use Rattle.std.proofs.lemmas.Bool.{cases_lt}
use Rattle.std.proofs.lemmas.List.{reverse-append, length-reverse}
use Rattle.std.proofs.Math.Seq.{take-length, take-append_seam}
use Rattle.sled_nodes.specs.Order.{Key}
use Rattle.sled_store.specs.Update.{put_at}
use Rattle.sled_pages.specs.declared.memory.slots.Slot.{Slot}
use Rattle.sled_pages.specs.declared.memory.undo.Undo.{Undo}
use Rattle.sled_pages.specs.declared.memory.undo.Undo.TheVariants.{UndoSlot}
use Rattle.sled_store.specs.State.{State, Action, after_all}
use Rattle.sled_pages.specs.Table.{Table, undone, undoes, base_of, recent_of, state_of, has_place, slot_given, undo_given, IsKept}
use Rattle.sled_pages.specs.theory.Table.{table, state_at, TakesBack, TakenBack}
use Rattle.sled_store.specs.Crash.{Crashes}
use Rattle.sled_pages.specs.Memory.{meaning}
use Rattle.sled_pages.specs.theory.Replay.{replay}
use Rattle.sled_nodes.proofs.All.{all_front}
use Rattle.sled_pages.proofs.Kept.{here_put}

-- as many actions as entries
length_recent : (log : List Undo) (t : Table) → length (recent_of log t) ≡ length log
length_recent [] t = refl
length_recent (u ∷ log) t = let e = length_recent log (undone u t) in simp length-append (omega (arith, e))

pub length_recent_log : (log : List Undo) (t : Table) → length (recent_of (reverse log) t) ≡ length log
length_recent_log log t = length_recent (reverse log) t ∙ length-reverse log

pub back_none : (keep : ℕ) (t : Table) (log : List Undo) → TakesBack keep t log t log
back_none keep t log = record {
  base = refl;
  recent = sym (ap (λ n. take n (recent_of (reverse log) t)) (sym (length_recent_log log t)) ∙ take-length (recent_of (reverse log) t));
  no_longer = omega arith;
  most = λ j a b c. absurd (omega (arith, a, c));
}

-- the last entry of a log
last_base : (log : List Undo) (u : Undo) (s t : Table) → t ≡ undone u s → base_of (reverse log) t ≡ base_of (reverse (log ++ u ∷ [])) s
last_base log u s t e = ap (base_of (reverse log)) e ∙ sym (ap (λ r. base_of r s) (reverse-append log (u ∷ [])))

last_recent : (log : List Undo) (u : Undo) (s t : Table) → t ≡ undone u s → recent_of (reverse log) t ≡ take (length log) (recent_of (reverse (log ++ u ∷ [])) s)
last_recent log u s t e =
    let r : List Action = recent_of (reverse log) (undone u s) in
    ap (recent_of (reverse log)) e
    ∙ sym (ap (λ x. take (length log) (recent_of x s)) (reverse-append log (u ∷ []))
    ∙ (ap (λ n. take n (r ++ undoes u s ∷ [])) (sym (length_recent_log log (undone u s))) ∙ take-append_seam r (undoes u s ∷ [])))

take_le : {X : Type 0} (n m : ℕ) (xs : List X) → n ≤ m → take n (take m xs) ≡ take n xs
take_le zero m xs h = refl
take_le (suc n) zero xs h = absurd (omega (arith, h))
take_le (suc n) (suc m) [] h = refl
take_le (suc n) (suc m) (x ∷ xs) h = ap (λ ys. x ∷ ys) (take_le n m xs (omega (arith, h)))

-- the state so far, of the table that was begun with
here : (keep : ℕ) (begun t : Table) (log0 log : List Undo) → TakesBack keep begun log0 t log → state_at (length log) log0 begun ≡ state_of t
here keep begun t log0 log h =
    ap (λ r. after_all r (state_of (base_of (reverse log0) begun))) (sym h.recent) ∙ (ap (λ (b : Table). after_all (recent_of (reverse log) t) (state_of b)) (sym h.base) ∙ replay (reverse log) t)

-- one more
pub back_one : (keep : ℕ) (begun s t : Table) (log0 log log' : List Undo) (u : Undo) → log ≡ log' ++ u ∷ [] → t ≡ undone u s → ((keep < length log) ⊎ (s.in_group ≡ true)) → TakesBack keep begun log0 s log → TakesBack keep begun log0 t log'
back_one keep begun s t log0 log log' u l e cause h =
    let R : List Action = recent_of (reverse log0) begun in
    let len : length log ≡ length log' + 1 = ap length l ∙ simp length-append in
    record {
      base = last_base log' u s t e ∙ (ap (λ x. base_of (reverse x) s) (sym l) ∙ h.base);
      recent = last_recent log' u s t e ∙ (ap (λ x. take (length log') (recent_of (reverse x) s)) (sym l) ∙ (ap (take (length log')) h.recent ∙ take_le (length log') (length log) R (omega arith)));
      no_longer = let n = h.no_longer in omega arith;
      most = λ j a b d. elim (cases_lt (length log) j) [
        | inl longer ↦ h.most j longer b d
        | inr not_longer ↦
            let same : j ≡ length log = omega arith in
            elim cause [
              | inl over ↦ absurd (omega arith)
              | inr is_open ↦ ap (λ (n : ℕ). (state_at n log0 begun).in_group) same ∙ (ap (λ (x : State). x.in_group) (here keep begun s log0 log h) ∙ is_open)
            ]
      ];
    }

pub kept_back : (s t : Table) (log log' : List Undo) (u : Undo) (places places' : ℕ → Bool) → log ≡ log' ++ u ∷ [] → places' ≡ places → t ≡ undone u s → IsKept places s log → IsKept places' t log'
kept_back s t log log' u places places' l p e k = rw p (record {
  placed = (all_front (has_place places) log' log u l k.placed).0;
  sealed = ap (λ (b : Table). b.in_group) (last_base log' u s t e ∙ ap (λ x. base_of (reverse x) s) (sym l)) ∙ k.sealed;
})

pub place_of_last : (places : ℕ → Bool) (log log' : List Undo) (u : Undo) → log ≡ log' ++ u ∷ [] → list_all (has_place places) log ≡ true → has_place places u ≡ true
place_of_last places log log' u l k = (all_front (has_place places) log' log u l k).1

-- a slot put back
pub slot_back : (slots slots' : ℕ → Option Slot) (roots : Key → Option ℕ) (g : Bool) (u : Undo) (pid : ℕ) (slot : Option Slot) → u ≡ UndoSlot pid slot → slots' ≡ put_at slots pid slot → table slots' roots g ≡ undone u (table slots roots g)
slot_back slots slots' roots g u pid slot e s = rw (e, s) refl

pub below_back : (next : ℕ) (slots slots' : ℕ → Option Slot) (u : Undo) (pid : ℕ) (slot : Option Slot) → u ≡ UndoSlot pid slot → slots' ≡ put_at slots pid slot → ((p : ℕ) → slot_given next (slots p) ≡ true) → undo_given next u ≡ true → (p : ℕ) → slot_given next (slots' p) ≡ true
below_back next slots slots' u pid slot e s h k = here_put next slots slots' pid slot s (ap (undo_given next) (sym e) ∙ k) h

-- what a crash leaves
pub crashes : (keep : ℕ) (s t : Table) (log log' none : List Undo) (n f : ℕ) (un un' : List ℕ) (mk : ℕ) (rc : Bool) (places places' : ℕ → Bool) (nv : ℕ) →
    TakenBack keep s log t log' → places' ≡ places → none ≡ [] → un' ≡ [] → Crashes keep (meaning s log n f un mk rc places nv) (meaning t none n 0 un' mk true places' nv)
crashes keep s t log log' none n f un un' mk rc places places' nv h p e d =
    let R : List Action = recent_of (reverse log) s in
    let size : length R ≡ length log = length_recent_log log s in
    record {
      kept = length log';
      at_most = h.at_most;
      within = let m = h.back.no_longer in omega arith;
      sealed = ap (λ (x : State). x.in_group) (here keep s t log log' h.back) ∙ h.sealed;
      most = λ j a b c. h.back.most j a b (omega (arith, c, size));
      is = rw (e, d, p) (ap (λ (x : State). record (meaning s log n f un mk rc places nv) { base = x; recent = []; faults = 0; is_readable = λ _. true; recovered = true }) (sym (here keep s t log log' h.back)));
    }

-- .. after which places of slots that are gone may go
pub crashes_on : (keep : ℕ) (s : Table) (slots slots' : ℕ → Option Slot) (roots : Key → Option ℕ) (g : Bool) (log log' none : List Undo) (n f : ℕ) (un un' : List ℕ) (mk : ℕ) (rc : Bool) (given given' : ℕ → Bool) (nv : ℕ) →
    TakenBack keep s log (table slots roots g) log' → slots' ≡ slots → given' ≡ given → none ≡ [] → un' ≡ [] → Crashes keep (meaning s log n f un mk rc given nv) (meaning (table slots' roots g) none n 0 un' mk true given' nv)
crashes_on keep s slots slots' roots g log log' none n f un un' mk rc given given' nv h e p l u = rw e (crashes keep s (table slots roots g) log log' none n f un un' mk rc given given' nv h p l u)
