-- What a crash leaves while two disks are opened.
use Rattle.std.proofs.Common.{◌≡◌, ◌≤◌, ◌+◌, inl, inr, ℕ, List, subst, ◌⊎◌, arith}
use Rattle.sled_disk.specs.Disk.{LeavesOnly, NoMore}
use Rattle.sled_log.proofs.Moments.{begun, joined_runs}
use Rattle.sled_files.specs.Change.{nothing_yet}
use Rattle.sled_files.specs.Standing.{AreBlank, IsBegun}
use Rattle.sled_disk.specs.declared.disk.DiskError.TheVariants as disk
use Rattle.sled_files.specs.declared.found.OpenError.{OpenError}
use Rattle.sled_files.specs.declared.found.OpenError.TheVariants.{NoMemory, NotAStore, OtherFormat, Decayed, Disk}
use Rattle.sled_files.specs.Opening.{LeavesWhileOpened, is_counted, is_why_unopened}

module _ {D : Type 0} {seen : D → List ℕ} {moment : D → ℕ} {left_since : D → ℕ → List ℕ → Type 0} {may_leave : D → List ℕ → Type 0} (first second one two : D)
    (first_run : LeavesOnly moment left_since first one (may_leave first)) (second_run : LeavesOnly moment left_since second two (may_leave second))
    (first_more : NoMore (may_leave first) (may_leave one)) (second_more : NoMore (may_leave second) (may_leave two)) where
  -- while both are only read
  pub leaves_read : (a b : D) → a ≡ one → b ≡ two → LeavesWhileOpened seen moment left_since may_leave first second a b
  leaves_read a b is also = record {
    first_is = λ c left. inl (first_run.each c (subst (λ (x : D). left_since x (moment first) c) is left));
    second_is = λ c left. second_run.each c (subst (λ (x : D). left_since x (moment second) c) also left);
    first_now = λ c left. inl (first_more c (subst (λ (x : D). may_leave x c) is left));
    second_now = λ c left. second_more c (subst (λ (x : D). may_leave x c) also left);
  }

  -- while the first is begun
  pub leaves_begun : (a b : D) → LeavesOnly moment left_since one a (IsBegun (seen one) 1 nothing_yet) → ((c : List ℕ) → may_leave a c → IsBegun (seen one) 1 nothing_yet c) → seen one ≡ seen first → b ≡ two → AreBlank (seen first) (seen second)
      → LeavesWhileOpened seen moment left_since may_leave first second a b
  leaves_begun a b begins now same also blanks =
      let anew : (c : List ℕ) → IsBegun (seen one) 1 nothing_yet c → may_leave first c ⊎ (AreBlank (seen first) (seen second) × IsBegun (seen first) 1 nothing_yet c) = λ c is. inr (blanks, subst (λ (bytes : List ℕ). IsBegun bytes 1 nothing_yet c) same is) in
      let run = joined_runs moment left_since first one a (may_leave first) (IsBegun (seen one) 1 nothing_yet) (λ c. may_leave first c ⊎ (AreBlank (seen first) (seen second) × IsBegun (seen first) 1 nothing_yet c)) first_run begins
      (λ c before. inl before)
      anew in
      record {
        first_is = λ c left. run.each c left;
        second_is = λ c left. second_run.each c (subst (λ (x : D). left_since x (moment second) c) also left);
        first_now = λ c left. anew c (now c left);
        second_now = λ c left. second_more c (subst (λ (x : D). may_leave x c) also left);
      }

-- of a disk of which no call was made
pub unasked : {D : Type 0} {moment : D → ℕ} {left_since : D → ℕ → List ℕ → Type 0} (may_leave : D → List ℕ → Type 0) (disk : D) → ((c : List ℕ) → left_since disk (moment disk) c → may_leave disk c) → LeavesOnly moment left_since disk disk (may_leave disk)
unasked {D} {moment} {left_since} may_leave disk only = begun moment left_since disk (may_leave disk) only

-- what a crash leaves now, where it is known what one left since an earlier moment
pub left_now : {D : Type 0} {moment : D → ℕ} {left_since : D → ℕ → List ℕ → Type 0} (may_leave : D → List ℕ → Type 0) {old new : D} {P : List ℕ → Type 0} → LeavesOnly moment left_since old new P → ((t : ℕ) (c : List ℕ) → t ≤ moment new → may_leave new c → left_since new t c) → (c : List ℕ) → may_leave new c → P c
left_now {D} {moment} {left_since} may_leave {old} {new} {P} run counts c left = run.each c (counts (moment old) c run.later left)

-- faults of two disks, of which one was asked

pub counted_first : (e : OpenError) (before now other : ℕ) → is_counted before now e → is_counted (before + other) (now + other) e
counted_first NoMemory before now other is = omega (arith, is)
counted_first NotAStore before now other is = omega (arith, is)
counted_first (OtherFormat n) before now other is = omega (arith, is)
counted_first (Decayed n) before now other is = omega (arith, is)
counted_first (Disk disk.NoMemory) before now other is = is
counted_first (Disk disk.Full) before now other is = omega (arith, is)
counted_first (Disk disk.Failed) before now other is = omega (arith, is)

pub counted_second : (e : OpenError) (other after before now : ℕ) → after ≡ other → is_counted before now e → is_counted (other + before) (after + now) e
counted_second NoMemory other after before now same is = omega (arith, is, same)
counted_second NotAStore other after before now same is = omega (arith, is, same)
counted_second (OtherFormat n) other after before now same is = omega (arith, is, same)
counted_second (Decayed n) other after before now same is = omega (arith, is, same)
counted_second (Disk disk.NoMemory) other after before now same is = is
counted_second (Disk disk.Full) other after before now same is = omega (arith, is, same)
counted_second (Disk disk.Failed) other after before now same is = omega (arith, is, same)

-- a refusal that no disk made is not counted
pub uncounted : (e : OpenError) (first second : List ℕ) (before now : ℕ) → now ≡ before → is_why_unopened e first second → is_counted before now e
uncounted NoMemory first second before now same why = same
uncounted NotAStore first second before now same why = same
uncounted (OtherFormat n) first second before now same why = same
uncounted (Decayed n) first second before now same why = same
uncounted (Disk e) first second before now same why = absurd why
