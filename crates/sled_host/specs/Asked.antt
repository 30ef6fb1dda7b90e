-- What becomes of a call of a file of the operating system.
use Rattle.std.specs.Prelude.{◌≡◌, ◌⊎◌, ℕ, Bool, true, false, List, ◌∷◌, Result, Err, is_ok, IfErr}
use Rattle.sled_disk.specs.declared.disk.DiskError.{DiskError}
use Rattle.sled_disk.specs.declared.disk.DiskError.TheVariants.{NoMemory}
use Rattle.sled_host.specs.Event.{Event}
use Rattle.sled_host.specs.Stops.{has_failed, is_unchanged, told_as}
use Rattle.sled_host.specs.Host.{calls_of, faults_of}
use Rattle.sled_host.specs.declared.host.HostFile.{HostFile}

-- the refusal is told as a fault: want of memory is none, unless no more faults can be counted
abbrev pub IsFault : {T : Type 0} → ℕ → Result T DiskError → Type 0
IsFault counted result = IfErr result (λ e. (e ≡ told_as counted true) ⊎ (e ≡ told_as counted false))

-- A call that changes a file or brings it to the disk, with its event. It is made, and the system's refusal is told as a fault. Once a call
-- was not done it is not made, and is told as failed
pub record IsAsked {T : Type 0} (call : Bool → Event) (old new : HostFile) (result : Result T DiskError) : Type 0 where
  pub made : has_failed (calls_of old) ≡ false → calls_of new ≡ call (is_ok result) ∷ calls_of old
  pub told : IsFault (faults_of old) result
  pub stops : has_failed (calls_of old) ≡ true → (result ≡ Err (told_as (faults_of old) false)) × (calls_of new ≡ calls_of old)

-- A read is refused for want of memory alone, as long as no call changed the file, and from then on as failed. It is no call of the system
pub record IsRead {T : Type 0} (old new : HostFile) (result : Result T DiskError) : Type 0 where
  pub kept : is_unchanged (calls_of old) ≡ true → IfErr result (λ e. e ≡ NoMemory)
  pub gone : is_unchanged (calls_of old) ≡ false → result ≡ Err (told_as (faults_of old) false)
  pub same : calls_of new ≡ calls_of old
