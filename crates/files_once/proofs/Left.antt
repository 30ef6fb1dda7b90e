-- What a crash leaves of the disks of an opening that was refused.
use Rattle.std.proofs.Common.{◌≡◌, ◌∙◌, inl, inr, ℕ, List, [], ◌∷◌, refl, sym, subst}
use Rattle.std.specs.Prelude.{◌⊎◌}
use Rattle.sled_disk.specs.Disk.{Only, NoMore}
use Rattle.sled_log.specs.Digest.{digest}
use Rattle.sled_log.specs.Tear.{log_to_tear}
use Rattle.sled_files.specs.Change.{nothing_yet}
use Rattle.sled_files.specs.Opening.{IsTold, is_refusal}
use Rattle.sled_files.specs.Standing.{IsBlank, AreBlank, IsBegun}
use Rattle.sled_files.specs.declared.found.OpenError.{OpenError}
use Rattle.sled_once.specs.Stages.{IsReadAs, IsReadAsOne, LeavesReadAs}
use Rattle.sled_once.proofs.Reading.{torn_of, told_of_none}
use Rattle.files_once.specs.Mended.{IsMended, IsMadeWhole, BeginsAsStore, LeftMeanwhile, LeftOrBegun}
use Rattle.files_once.proofs.Alike.{of_equal, whole_is, blank_is}

pub no_more : (files may_leave : List ℕ → Type 0) → NoMore files may_leave → LeavesReadAs files may_leave
no_more files may_leave more = record { gate = 0; bytes = []; each = λ c left told. (c, more c left, inl refl); untold = λ c left untold. absurd (untold (told_of_none 0 c)) }

-- reading goes on from file to file
through : (one two three : List ℕ) → IsReadAs one two → IsReadAs two three → IsReadAs one three
through one two three (inl same) second = subst (λ (l : List ℕ). IsReadAs l three) same second
through one two three (inr first) (inl same) = subst (λ (l : List ℕ). IsReadAs one l) (sym same) (inr first)
through one two three (inr first) (inr second) = inr (second.0 ∙ first.0, first.1)

read_then : (files others : List ℕ → Type 0) → ((c : List ℕ) → files c → IsReadAsOne others c) → (c : List ℕ) → IsReadAsOne files c → IsReadAsOne others c
read_then files others to c one = let two : IsReadAsOne others one.0 = to one.0 one.1 in (two.0, two.1, through two.0 one.0 c two.2 one.2)

pub read_on : (files others may_leave : List ℕ → Type 0) → LeavesReadAs files may_leave → ((c : List ℕ) → files c → IsReadAsOne others c) → LeavesReadAs others may_leave
read_on files others may_leave r to = record {
  gate = r.gate;
  bytes = r.bytes;
  each = λ c left told. read_then files others to c (r.each c left told);
  untold = λ c left untold. torn_of (IsReadAsOne files) (IsReadAsOne others) (read_then files others to) r.gate r.bytes c (r.untold c left untold);
}

-- all of a disk is on it, and may be left of it
pub only_seen : (file : List ℕ) (before may_leave : List ℕ → Type 0) → Only file may_leave → before file → (c : List ℕ) → may_leave c → IsReadAsOne before c
only_seen file before may_leave only stays c left = (file, stays, inl (only c left))

-- a file as it was mended is read as it was
pub mended_read : (before after : List ℕ) → IsMended before after → IsReadAs before after
mended_read before after (inl same) = inl same.0
mended_read before after (inr m) =
    let w : IsMadeWhole before after = m in
    let b : BeginsAsStore before = w.began in
    inr (whole_is after (log_to_tear digest before) w.log, λ none. let read : log_to_tear digest before ≡ b.payload ∷ b.others = b.read in cc)

-- one that is blank then was not changed
pub blank_same : (before after : List ℕ) → IsMended before after → IsBlank after → after ≡ before
blank_same before after (inl same) blank = same.0
blank_same before after (inr m) blank =
    let w : IsMadeWhole before after = m in
    let b : BeginsAsStore before = w.began in
    let read : log_to_tear digest before ≡ b.payload ∷ b.others = b.read in
    let none : log_to_tear digest before ≡ [] = sym (whole_is after (log_to_tear digest before) w.log) ∙ blank_is after blank in
    absurd (cc)

pub left_meanwhile : (before : List ℕ → Type 0) (file : List ℕ) → before file → (c : List ℕ) → LeftMeanwhile before file c → IsReadAsOne before c
left_meanwhile before file stays c (inl left) = (c, left, inl refl)
left_meanwhile before file stays c (inr read) = (file, stays, read)

-- and so is what was left of the first, or is begun
pub or_begun : (before : List ℕ → Type 0) (first second : List ℕ) (c : List ℕ) → IsReadAsOne before c → IsReadAsOne (LeftOrBegun before first second) c
or_begun before first second c r = (r.0, inl r.1, r.2)

pub mended_one : (before : List ℕ → Type 0) (file file_now : List ℕ) (now : List ℕ → Type 0) → before file → IsMended file file_now → Only file_now now → (c : List ℕ) → now c → IsReadAsOne before c
mended_one before file file_now now stays m only c left = (file, stays, subst (λ (l : List ℕ). IsReadAs file l) (sym (only c left)) (mended_read file file_now m))

module _ (before : List ℕ → Type 0) (first second first_now second_now : List ℕ) (stays : before first) (now : List ℕ → Type 0) where
  -- the same of the first of two files that were mended, which may be begun then
  pub mended_then_begun : IsMended first first_now → IsMended second second_now → Only first_now now → (c : List ℕ) → LeftOrBegun now first_now second_now c → IsReadAsOne (LeftOrBegun before first second) c
  mended_then_begun m n only c (inl left) = or_begun before first second c (mended_one before first first_now now stays m only c left)
  mended_then_begun m n only c (inr b) =
      let one : first_now ≡ first = blank_same first first_now m b.0.first_is in
      let two : second_now ≡ second = blank_same second second_now n b.0.second_is in
      (c, inr (of_equal AreBlank one two b.0, subst (λ (l : List ℕ). IsBegun l 1 nothing_yet c) one b.1), inl refl)

  -- and of the first of two that were not changed
  pub opened_or_begun : first_now ≡ first → second_now ≡ second → Only first now → (c : List ℕ) → LeftOrBegun now first_now second_now c → IsReadAsOne (LeftOrBegun before first second) c
  opened_or_begun one two only c (inl left) = (first, inl stays, inl (only c left))
  opened_or_begun one two only c (inr b) = (c, inr (of_equal AreBlank one two b.0, subst (λ (l : List ℕ). IsBegun l 1 nothing_yet c) one b.1), inl refl)

-- why an opening was refused, once both disks were handed back
module _ (before mid after : OpenError) (first : is_refusal before → mid ≡ before) (second : is_refusal mid → after ≡ mid) where
  pub refused_then : is_refusal before → is_refusal after
  refused_then r = let one : is_refusal mid = subst is_refusal (sym (first r)) r in subst is_refusal (sym (second one)) one

  pub told_then : (mid ≡ before) ⊎ is_refusal mid → (after ≡ mid) ⊎ is_refusal after → (e : OpenError) → IsTold e before → IsTold e after
  told_then one two e (inr r) = inr (refused_then r)
  told_then one (inr r) e (inl same) = inr r
  told_then (inr r) (inl two) e (inl same) = inr (subst is_refusal (sym two) r)
  told_then (inl one) (inl two) e (inl same) = inl (two ∙ (one ∙ same))
