-- What a crash leaves of two files, by what it leaves of each.
use Rattle.std.proofs.Common.{◌≡◌, inl, inr, ⊎_elim, ℕ, ◌≤◌, ◌<◌, ◌^◌, List, length, refl, sym, subst}
use Rattle.std.specs.Prelude.{Bool, true, false, not, ◌⊎◌}
use Rattle.sled_disk.specs.Disk.{Only, LeavesOnly}
use Rattle.sled_log.specs.Digest.{digest}
use Rattle.sled_log.specs.Append.{behind_gate, IsBeforeOrAfter}
use Rattle.sled_log.proofs.Moments.{begun}
use Rattle.sled_bytes.specs.declared.change.Change.{Change}
use Rattle.sled_files.specs.Change.{Durable, changed_all, AreAdded}
use Rattle.sled_files.specs.Standing.{OfGeneration, StandsFor, StandsAt, IsBlank, IsOlder, IsBegun, AreFor}
use Rattle.sled_files.specs.Pending.{Spells}
use Rattle.sled_files.specs.theory.Begun.{IsEmptied}
use Rattle.sled_files.proofs.Adding.{block_for, before_or_after, of_generation}
use Rattle.sled_files.proofs.Emptying.{behind_still}
use Rattle.sled_files.specs.Files.{Files, picked, one_of, other_of, IsReady, KeepsTime, LeavesPairs, AreForEither}

-- it does not matter which of two files is the first
for_swapped : (a b : List ℕ) (d : Durable) → AreFor a b d → AreFor b a d
for_swapped a b d are = record { generation = are.generation; which = ⊎_elim (λ one. inr one) (λ one. inl one) are.which }

pub either_swapped : (d e : Durable) (a b : List ℕ) → AreForEither d e a b → AreForEither d e b a
either_swapped d e a b (inl are) = inl (for_swapped a b d are)
either_swapped d e a b (inr are) = inr (for_swapped a b e are)

-- while the other file is begun anew
pub begun_beside : {one other : List ℕ} {gate generation : ℕ} {d e : Durable} → StandsAt one gate generation d → IsBlank other ⊎ IsOlder generation other → (next : ℕ) → generation < next → (a b : List ℕ) → a ≡ one → IsBegun other next e b → AreForEither d e a b
begun_beside {one} {other} {gate} {generation} {d} {e} at behind next below a b is (inl same) = inl (record { generation = generation; which = inl (record { stands = subst (λ (c : List ℕ). StandsFor c generation d) (sym is) at.stands; behind = subst (λ (c : List ℕ). IsBlank c ⊎ IsOlder generation c) (sym same) behind }) })
begun_beside {one} {other} {gate} {generation} {d} {e} at behind next below a b is (inr (inl blank)) = inl (record { generation = generation; which = inl (record { stands = subst (λ (c : List ℕ). StandsFor c generation d) (sym is) at.stands; behind = inl blank }) })
begun_beside {one} {other} {gate} {generation} {d} {e} at behind next below a b is (inr (inr stands)) = inr (record {
  generation = next;
  which = inr (record { stands = stands; behind = inr (record { earlier = generation; below = below; is = subst (λ (c : List ℕ). OfGeneration c generation) (sym is) (of_generation at.stands.has) }) });
})

-- one of two, where both have what is said
pub picked_has : {D : Type 0} (P : D → Type 0) (is_second : Bool) (first second : D) → P first → P second → P (picked is_second first second)
picked_has P true first second p q = q
picked_has P false first second p q = p

module _ {D : Type 0} (moment : D → ℕ) (left_since : D → ℕ → List ℕ → Type 0) (may_leave : D → List ℕ → Type 0) where
  by_file : (is_second : Bool) (old new : Files D) (Q R : List ℕ → Type 0) (P : List ℕ → List ℕ → Type 0) → KeepsTime moment left_since may_leave new.first → KeepsTime moment left_since may_leave new.second
      → LeavesOnly moment left_since (picked is_second old.first old.second) (picked is_second new.first new.second) Q
      → LeavesOnly moment left_since (picked is_second old.second old.first) (picked is_second new.second new.first) R
      → ((a b : List ℕ) → Q a → R b → P a b) → ((a b : List ℕ) → P a b → P b a) → LeavesPairs moment left_since may_leave old new P
  by_file false old new Q R P first_time second_time one other both swap = record {
    first_later = one.later;
    second_later = other.later;
    each = record { each = λ a b l r. both a b (one.each a l) (other.each b r) };
    now = record { each = λ a b l r. both a b (one.each a (first_time.counts (moment old.first) a one.later l)) (other.each b (second_time.counts (moment old.second) b other.later r)) };
  }
  by_file true old new Q R P first_time second_time one other both swap = record {
    first_later = other.later;
    second_later = one.later;
    each = record { each = λ a b l r. swap b a (both b a (one.each b r) (other.each a l)) };
    now = record { each = λ a b l r. swap b a (both b a (one.each b (second_time.counts (moment old.second) b one.later r)) (other.each a (first_time.counts (moment old.first) a other.later l))) };
  }

module _ {D : Type 0} (seen : D → List ℕ) (moment : D → ℕ) (left_since : D → ℕ → List ℕ → Type 0) (may_leave : D → List ℕ → Type 0) where
  abbrev IsSteady : D → Type 0
  IsSteady file = Only (seen file) (may_leave file)

  abbrev IsTimed : D → Type 0
  IsTimed file = KeepsTime moment left_since may_leave file

  one_only : (f : Files D) (d : Durable) → IsReady seen may_leave f d → IsSteady (one_of f)
  one_only f d ready = picked_has IsSteady f.is_second f.first f.second ready.first_only ready.second_only

  other_only : (f : Files D) (d : Durable) → IsReady seen may_leave f d → IsSteady (other_of f)
  other_only f d ready = picked_has IsSteady f.is_second f.second f.first ready.second_only ready.first_only

  -- of a file of which no call was made
  unmoved : (file new : D) → IsTimed file → IsSteady file → new ≡ file → LeavesOnly moment left_since file new (λ c. c ≡ seen file)
  unmoved file new time only is = subst (λ (x : D). LeavesOnly moment left_since file x (λ c. c ≡ seen file)) (sym is) (begun moment left_since file (λ c. c ≡ seen file) (λ c left. only c (time.only c left)))

  same_for : (f : Files D) (d : Durable) → IsReady seen may_leave f d → (a b : List ℕ) → a ≡ seen (one_of f) → b ≡ seen (other_of f) → AreFor a b d
  same_for f d ready a b is that = record {
    generation = f.generation;
    which = inl (record { stands = subst (λ (c : List ℕ). StandsFor c f.generation d) (sym is) ready.stands.stands; behind = subst (λ (c : List ℕ). IsBlank c ⊎ IsOlder f.generation c) (sym that) ready.behind });
  }

  -- before a disk is asked
  pub while_unasked : (f : Files D) (d e : Durable) → IsTimed f.first → IsTimed f.second → IsReady seen may_leave f d → LeavesPairs moment left_since may_leave f f (AreForEither d e)
  while_unasked f d e first second ready =
      by_file moment left_since may_leave f.is_second f f (λ a. a ≡ seen (one_of f)) (λ b. b ≡ seen (other_of f)) (AreForEither d e) first second
      (unmoved (one_of f) (one_of f) (picked_has IsTimed f.is_second f.first f.second first second) (one_only f d ready) refl)
      (unmoved (other_of f) (other_of f) (picked_has IsTimed f.is_second f.second f.first second first) (other_only f d ready) refl)
      (λ a b is that. inl (same_for f d ready a b is that))
      (either_swapped d e)

  -- while a block is added to the file that counts, and the other is emptied
  pub while_added : (old new : Files D) (d : Durable) → IsTimed new.first → IsTimed new.second → (ready : IsReady seen may_leave old d) {payload : List ℕ} {changes : List Change} (spells : Spells payload changes) (added : AreAdded changes d) (few : length payload < 2 ^ 64) (block : List ℕ) (block_is : block ≡ behind_gate digest payload)
      → LeavesOnly moment left_since (one_of old) (picked old.is_second new.first new.second) (IsBeforeOrAfter (block_for ready.stands spells added few block block_is))
      → LeavesOnly moment left_since (other_of old) (picked old.is_second new.second new.first) (IsEmptied (seen (other_of old))) → LeavesPairs moment left_since may_leave old new (AreForEither d (changed_all changes d))
  while_added old new d new_first new_second ready {payload} {changes} spells added few block block_is run emptied =
      by_file moment left_since may_leave old.is_second old new (IsBeforeOrAfter (block_for ready.stands spells added few block block_is)) (IsEmptied (seen (other_of old))) (AreForEither d (changed_all changes d)) new_first new_second
      run
      emptied
      (λ a b either is. before_or_after ready.stands spells added few block block_is a b (behind_still ready.behind is) either)
      (either_swapped d (changed_all changes d))

  -- while the other file is begun anew
  pub while_begun : (old new : Files D) (d e : Durable) → IsTimed old.first → IsTimed old.second → IsTimed new.first → IsTimed new.second → (ready : IsReady seen may_leave old d) (next : ℕ) → old.generation < next
      → LeavesOnly moment left_since (other_of old) (picked old.is_second new.second new.first) (IsBegun (seen (other_of old)) next e)
      → picked old.is_second new.first new.second ≡ one_of old → LeavesPairs moment left_since may_leave old new (AreForEither d e)
  while_begun old new d e old_first old_second new_first new_second ready next below run same =
      by_file moment left_since may_leave old.is_second old new (λ a. a ≡ seen (one_of old)) (IsBegun (seen (other_of old)) next e) (AreForEither d e) new_first new_second
      (unmoved (one_of old) (picked old.is_second new.first new.second) (picked_has IsTimed old.is_second old.first old.second old_first old_second) (one_only old d ready) same)
      run
      (λ a b is started. begun_beside ready.stands ready.behind next below a b is started)
      (either_swapped d e)

  of_parts : (is_second : Bool) (first second : D) (gate snapshot generation : ℕ) (d : Durable) → IsSteady (picked is_second first second) → IsSteady (picked is_second second first) → (at : StandsAt (seen (picked is_second first second)) gate generation d) → length at.stands.has.first ≡ snapshot → IsBlank (seen (picked is_second second first)) ⊎ IsOlder generation (seen (picked is_second second first))
      → IsReady seen may_leave (record { first = first; second = second; is_second = is_second; gate = gate; snapshot = snapshot; generation = generation; failed = false }) d
  of_parts true first second gate snapshot generation d one other at begins behind = record { sound = refl; first_only = other; second_only = one; stands = at; begins = begins; behind = behind }
  of_parts false first second gate snapshot generation d one other at begins behind = record { sound = refl; first_only = one; second_only = other; stands = at; begins = begins; behind = behind }

  turned : (is_second : Bool) (first second : D) → picked (not is_second) first second ≡ picked is_second second first
  turned true first second = refl
  turned false first second = refl

  with_turned : (is_second : Bool) (first second : D) (gate snapshot generation : ℕ) (e : Durable) (at : StandsAt (seen (picked is_second second first)) gate generation e) → length at.stands.has.first ≡ snapshot
      → (it : StandsAt (seen (picked (not is_second) first second)) gate generation e) × (length it.stands.has.first ≡ snapshot)
  with_turned true first second gate snapshot generation e at begins = (at, begins)
  with_turned false first second gate snapshot generation e at begins = (at, begins)

  -- once a block was added to the file that counts, and the other was emptied
  pub once_added : (old : Files D) (first second : D) (gate : ℕ) (e : Durable) → IsSteady (picked old.is_second second first) → length (seen (picked old.is_second second first)) ≤ 1 → IsSteady (picked old.is_second first second) → (at : StandsAt (seen (picked old.is_second first second)) gate old.generation e) → length at.stands.has.first ≡ old.snapshot
      → IsReady seen may_leave (record { first = first; second = second; is_second = old.is_second; gate = gate; snapshot = old.snapshot; generation = old.generation; failed = false }) e
  once_added old first second gate e other short steady at begins = of_parts old.is_second first second gate old.snapshot old.generation e steady other at begins (inl (inl short))

  -- once the other file was begun anew
  pub once_begun : (old : Files D) (first second : D) (gate snapshot next : ℕ) (d e : Durable) → IsReady seen may_leave old d → old.generation < next → picked old.is_second first second ≡ one_of old → IsSteady (picked old.is_second second first) → (at : StandsAt (seen (picked old.is_second second first)) gate next e) → length at.stands.has.first ≡ snapshot
      → IsReady seen may_leave (record { first = first; second = second; is_second = not old.is_second; gate = gate; snapshot = snapshot; generation = next; failed = false }) e
  once_begun old first second gate snapshot next d e ready below same steady at begins =
      let turned_at = with_turned old.is_second first second gate snapshot next e at begins in
      of_parts (not old.is_second) first second gate snapshot next e
      (subst IsSteady (sym (turned old.is_second first second)) steady)
      (subst IsSteady (sym (turned old.is_second second first)) (subst IsSteady (sym same) (one_only old d ready)))
      turned_at.0
      turned_at.1
      (inr (record { earlier = old.generation; below = below; is = subst (λ (x : D). OfGeneration (seen x) old.generation) (sym (turned old.is_second second first)) (subst (λ (x : D). OfGeneration (seen x) old.generation) (sym same) (of_generation ready.stands.stands.has)) }))
