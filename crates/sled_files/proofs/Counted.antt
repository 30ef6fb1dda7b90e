-- Faults of two disks, of which one was asked.
use Rattle.std.proofs.Common.{◌≡◌, ℕ, ◌+◌, arith, refl, ap, true, false}
use Rattle.std.specs.Prelude.{Result, Ok, Err, Bool}
use Rattle.sled_disk.specs.Disk.{has_cause, HasCause, is_caused}
use Rattle.sled_disk.specs.declared.disk.DiskError.{DiskError}
use Rattle.sled_disk.specs.declared.disk.DiskError.TheVariants.{NoMemory, Full, Failed}
use Rattle.sled_files.specs.Files.{picked, is_stop}

caused_beside : {T : Type 0} (r : Result T DiskError) (before now other old new : ℕ) → old ≡ before + other → new ≡ now + other → has_cause before now r → has_cause old new r
caused_beside (Ok x) before now other old new o n is = omega (arith, o, n, is)
caused_beside (Err NoMemory) before now other old new o n is = omega (arith, o, n, is)
caused_beside (Err Full) before now other old new o n is = omega (arith, o, n, is)
caused_beside (Err Failed) before now other old new o n is = omega (arith, o, n, is)

pub caused_first : {T : Type 0} (r : Result T DiskError) (before now other : ℕ) → HasCause before now r → HasCause (before + other) (now + other) r
caused_first r before now other cause = record { is = caused_beside r before now other (before + other) (now + other) (omega arith) (omega arith) cause.is }

pub caused_second : {T : Type 0} (r : Result T DiskError) (before now other : ℕ) → HasCause before now r → HasCause (other + before) (other + now) r
caused_second r before now other cause = record { is = caused_beside r before now other (other + before) (other + now) (omega arith) (omega arith) cause.is }

-- of a refusal of the file that does not count, while the other stays
pub stopped : {D : Type 0} (faults : D → ℕ) (is_second : Bool) (first second first_then second_then : D) (e told : DiskError) → picked is_second first_then second_then ≡ picked is_second first second → is_caused (faults (picked is_second second first)) (faults (picked is_second second_then first_then)) e → ((before now : ℕ) → is_caused before now e → is_stop before now told) → is_stop (faults first + faults second) (faults first_then + faults second_then) told
stopped faults true first second first_then second_then e told same cause stops = stops _ _ (caused_beside {T = Unit {0}} (Err e) (faults first) (faults first_then) (faults second) _ _ refl (omega (arith, ap faults same)) cause)
stopped faults false first second first_then second_then e told same cause stops = stops _ _ (caused_beside {T = Unit {0}} (Err e) (faults second) (faults second_then) (faults first) _ _ (omega arith) (omega (arith, ap faults same)) cause)
