-- Why a call that brings something to the files is refused.
use Rattle.std.proofs.Common.{◌≡◌, inl, inr, ℕ, Bool, true, refl, ap, List}
use Rattle.std.specs.Prelude.{Result, Ok, Err, IfErr, OnOk, false, not, ◌&&◌}
use Rattle.sled_nodes.specs.declared.error.Error.{Error}
use Rattle.sled_nodes.specs.declared.error.Error.TheVariants.{NoMemory}
use Rattle.sled_disk.specs.declared.disk.DiskError.{DiskError}
use Rattle.sled_disk.specs.declared.disk.DiskError.TheVariants as disk
use Rattle.sled_files.specs.Files.{Files, is_unasked, IsRefused}
use Rattle.sled_files.specs.Codes.{disk_failed, fault_of, error_of, IsUnstored, FailsToReach, StopsOnlyAsFailed, SaysThatItFailed}
use Rattle.sled_files.specs.Raised.{Reaches}
use Rattle.sled_files.specs.Stored.{Stored, is_due}

module _ {D : Type 0} {faults : D → ℕ} where
  -- for want of memory, before the files are asked
  pub unstored_early : {lacks_room : Type 0} (files : Files D) (counted : ℕ) (e : Error) → e ≡ NoMemory → IsUnstored faults lacks_room files files counted e
  unstored_early files counted e is = record { cause = disk.NoMemory; why = inl (refl, tt); is = is }

  -- as a disk refused a call before
  pub unstored_over : {lacks_room : Type 0} (files : Files D) (counted : ℕ) (e : Error) → files.failed ≡ true → e ≡ fault_of counted disk_failed → IsUnstored faults lacks_room files files counted e
  unstored_over files counted e failed is = record { cause = disk.Failed; why = inl (refl, failed); is = is }

unasked_weaker : {A B : Type 0} (failed : Bool) (e : DiskError) → (A → B) → is_unasked failed A e → is_unasked failed B e
unasked_weaker failed disk.NoMemory on is = tt
unasked_weaker failed disk.Full on is = on is
unasked_weaker failed disk.Failed on is = is

refused_weaker : {D : Type 0} (faults : D → ℕ) {A B : Type 0} (old new : Files D) (e : DiskError) → (A → B) → IsRefused faults A old new e → IsRefused faults B old new e
refused_weaker faults old new e on (inl same) = inl (same.0, unasked_weaker old.failed e on same.1)
refused_weaker faults old new e on (inr is) = inr is

-- what lacks room lacks more
pub unstored_weaker : {D : Type 0} {faults : D → ℕ} {A B : Type 0} {old new : Files D} {counted : ℕ} {e : Error} → (A → B) → IsUnstored faults A old new counted e → IsUnstored faults B old new counted e
unstored_weaker {faults = faults} {old = old} {new = new} on u = record { cause = u.cause; why = refused_weaker faults old new u.cause on u.why; is = u.is }

pub unstored_on : {T D : Type 0} (faults : D → ℕ) {A B : Type 0} (old new : Files D) (counted : ℕ) (r : Result T Error) → (A → B) → IfErr r (λ e. IsUnstored faults A old new counted e) → IfErr r (λ e. IsUnstored faults B old new counted e)
unstored_on faults old new counted (Ok x) on u = u
unstored_on faults old new counted (Err e) on u = unstored_weaker on u

module _ {D : Type 0} {faults : D → ℕ} (old new : Stored D) (e : Error) where
  pub goes_on : new.files.failed ≡ old.files.failed → StopsOnlyAsFailed faults old new e
  goes_on same = record { is = inl same }

  stops_by : (lacks_room : Type 0) (cause : DiskError) → IsRefused faults lacks_room old.files new.files cause → e ≡ error_of old.faults cause → StopsOnlyAsFailed faults old new e
  stops_by lacks_room cause (inl same) is = goes_on (ap (λ (f : Files D). f.failed) same.0)
  stops_by lacks_room cause (inr stop) is = record { is = inr (record { cause = cause; refused = stop.1; told = is }) }

  -- a refusal of the files says whether it stops the store
  pub stops_unstored : {lacks_room : Type 0} → IsUnstored faults lacks_room old.files new.files old.faults e → StopsOnlyAsFailed faults old new e
  stops_unstored u = stops_by _ u.cause u.why u.is

  pub stops_unreached : FailsToReach faults old new e → StopsOnlyAsFailed faults old new e
  stops_unreached (inl lacks) = goes_on (ap (λ (f : Files D). f.failed) lacks.files)
  stops_unreached (inr u) = stops_unstored u

pub goes_on_err : {T D : Type 0} (faults : D → ℕ) (old new : Stored D) (r : Result T Error) → new.files.failed ≡ old.files.failed → IfErr r (StopsOnlyAsFailed faults old new)
goes_on_err faults old new (Ok x) same = tt
goes_on_err faults old new (Err e) same = goes_on old new e same

pub goes_on_ok : {T A : Type 0} (r : Result T Error) → A → OnOk r A
goes_on_ok (Ok x) is = is
goes_on_ok (Err e) is = tt

-- numbers are reached without a stop
pub reaches_calm : {D : Type 0} {seen : D → List ℕ} (old new : Stored D) → Reaches seen old new → new.files.failed ≡ old.files.failed
reaches_calm old new (inl same) = ap (λ (f : Files _). f.failed) same.0
reaches_calm old new (inr raises) = raises.files.calm

due_up : (failed rest : Bool) → (not failed && rest) ≡ true → failed ≡ false
due_up true rest is = absurd (cc)
due_up false rest is = refl

-- a flush that is due to begin the log anew is one of a store that is not stopped
pub says_due : {D : Type 0} (f : Stored D) (e : Error) → is_due f ≡ true → SaysThatItFailed f e
says_due f e due failed = let up = due_up f.files.failed _ due in absurd (cc)
