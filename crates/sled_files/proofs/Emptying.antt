-- What a crash leaves of a file that is emptied.
use Rattle.std.proofs.Common.{◌≡◌, inl, inr, ℕ, List, [], ◌∷◌, sym, subst}
use Rattle.std.specs.Prelude.{◌⊎◌}
use Rattle.sled_disk.specs.Disk.{Only, NoMore, Elapses, LeavesOnly, Torn, Shortened, written}
use Rattle.sled_log.specs.Log.{closed}
use Rattle.sled_log.proofs.Moments.{begun, one_more, joined_runs}
use Rattle.sled_files.specs.Standing.{IsBlank, IsOlder}
use Rattle.sled_files.specs.theory.Begun.{IsEmptied}
use Rattle.sled_files.proofs.Beginning.{closed_or_blank, cut_blank}

module _ {D : Type 0} (seen : D → List ℕ) (moment : D → ℕ) (left_since : D → ℕ → List ℕ → Type 0) (may_leave : D → List ℕ → Type 0) (disk : D) (only : Only (seen disk) (may_leave disk)) (law : (c : List ℕ) → left_since disk (moment disk) c → may_leave disk c) where
  -- of a file of which no call was made
  pub emptied_not : (new : D) → new ≡ disk → LeavesOnly moment left_since disk new (IsEmptied (seen disk))
  emptied_not new is = subst (λ (x : D). LeavesOnly moment left_since disk x (IsEmptied (seen disk))) (sym is) (begun moment left_since disk (IsEmptied (seen disk)) (λ c left. inl (only c (law c left))))

  -- of one whose length was asked for
  pub emptied_asked : (new : D) → Elapses (moment disk) (moment new) (left_since disk) (left_since new) (may_leave new) → NoMore (may_leave disk) (may_leave new) → LeavesOnly moment left_since disk new (IsEmptied (seen disk))
  emptied_asked new time crash = one_more moment left_since disk disk new (IsEmptied (seen disk)) (may_leave new) (begun moment left_since disk (IsEmptied (seen disk)) (λ c left. inl (only c (law c left)))) time (λ c left. inl (only c (crash c left)))

module _ {D : Type 0} (seen : D → List ℕ) (moment : D → ℕ) (left_since : D → ℕ → List ℕ → Type 0) (disk asked : D) (so_far : LeavesOnly moment left_since disk asked (IsEmptied (seen disk))) (same : seen asked ≡ seen disk) where
  -- of one whose gate is closed
  pub emptied_closed : (new : D) → LeavesOnly moment left_since asked new (Torn 0 (closed ∷ []) (seen asked)) → LeavesOnly moment left_since disk new (IsEmptied (seen disk))
  emptied_closed new run = joined_runs moment left_since disk asked new (IsEmptied (seen disk)) (Torn 0 (closed ∷ []) (seen asked)) (IsEmptied (seen disk)) so_far run (λ c is. is) (λ c torn. closed_or_blank (seen disk) c (subst (λ (file : List ℕ). Torn 0 (closed ∷ []) file c) same torn))

  -- and of one that is cut then
  pub emptied_cut : (mid new : D) → LeavesOnly moment left_since asked mid (Torn 0 (closed ∷ []) (seen asked)) → seen mid ≡ written 0 (closed ∷ []) (seen asked) → LeavesOnly moment left_since mid new (Shortened 1 (seen mid)) → LeavesOnly moment left_since disk new (IsEmptied (seen disk))
  emptied_cut mid new run is cut = joined_runs moment left_since disk mid new (IsEmptied (seen disk)) (Shortened 1 (seen mid)) (IsEmptied (seen disk)) (emptied_closed mid run) cut (λ c was. was) (λ c shorter. inr (cut_blank (seen asked) c (subst (λ (file : List ℕ). Shortened 1 file c) is shorter)))

-- what a crash leaves of a file beside the one that counts, while it is emptied
pub behind_still : {generation : ℕ} {other c : List ℕ} → IsBlank other ⊎ IsOlder generation other → IsEmptied other c → IsBlank c ⊎ IsOlder generation c
behind_still {generation} behind (inl same) = subst (λ (l : List ℕ). IsBlank l ⊎ IsOlder generation l) (sym same) behind
behind_still behind (inr blank) = inl blank
