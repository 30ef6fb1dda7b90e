-- What a crash leaves of a file while it is mended.
use Rattle.std.proofs.Common.{◌≡◌, inl, inr, ℕ, List, [], ◌∷◌, subst}
use Rattle.sled_disk.specs.Disk.{Elapses, NoMore, LeavesOnly}
use Rattle.sled_log.specs.Digest.{digest}
use Rattle.sled_log.specs.Tear.{log_to_tear, ReadsAs}
use Rattle.sled_log.proofs.Moments.{begun, one_more, joined_runs}
use Rattle.files_once.specs.Mended.{BeginsAsStore, LeftMeanwhile}

-- a file that begins as a store's has a payload
has_some : (file : List ℕ) → BeginsAsStore file → log_to_tear digest file ≡ [] → ⊥
has_some file b none = let read : log_to_tear digest file ≡ b.payload ∷ b.others = b.read in cc

module _ {D : Type 0} (moment : D → ℕ) (left_since : D → ℕ → List ℕ → Type 0) (may_leave : D → List ℕ → Type 0) (file : List ℕ) (old : D) (only_now : (c : List ℕ) → left_since old (moment old) c → may_leave old c) where
  -- before the first call
  pub not_asked : LeavesOnly moment left_since old old (LeftMeanwhile (may_leave old) file)
  not_asked = begun moment left_since old (LeftMeanwhile (may_leave old) file) (λ c left. inl (only_now c left))

  -- once it was brought to the disk, or was to be
  pub synced : (new : D) → Elapses (moment old) (moment new) (left_since old) (left_since new) (may_leave new) → NoMore (may_leave old) (may_leave new) → LeavesOnly moment left_since old new (LeftMeanwhile (may_leave old) file)
  synced new time crash = one_more moment left_since old old new (LeftMeanwhile (may_leave old) file) (may_leave new) not_asked time (λ c left. inl (crash c left))

  -- and read
  pub looked_at : (mid new : D) → LeavesOnly moment left_since old mid (LeftMeanwhile (may_leave old) file) → NoMore (may_leave old) (may_leave mid) → LeavesOnly moment left_since mid new (may_leave mid) → LeavesOnly moment left_since old new (LeftMeanwhile (may_leave old) file)
  looked_at mid new before crash run = joined_runs moment left_since old mid new (LeftMeanwhile (may_leave old) file) (may_leave mid) (LeftMeanwhile (may_leave old) file) before run (λ c left. left) (λ c left. inl (crash c left))

  -- and mended
  pub mended_then : (mid new : D) (seen : List ℕ) → LeavesOnly moment left_since old mid (LeftMeanwhile (may_leave old) file) → LeavesOnly moment left_since mid new (ReadsAs seen) → seen ≡ file → BeginsAsStore file → LeavesOnly moment left_since old new (LeftMeanwhile (may_leave old) file)
  mended_then mid new seen before run is begins = joined_runs moment left_since old mid new (LeftMeanwhile (may_leave old) file) (ReadsAs seen) (LeftMeanwhile (may_leave old) file) before run (λ c left. left) (λ c reads. inr (inr (subst (λ (l : List ℕ). ReadsAs l c) is reads, has_some file begins)))
