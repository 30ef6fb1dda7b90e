-- What a refusal of the operating system is told as.
use Rattle.std.specs.Prelude.{◌≡◌, ℕ, Bool, true, false, Result, Ok, Err}
use Rattle.std.specs.IoError.{error_kind}
use Rattle.std.specs.declared.io.Error.{Error}
use Rattle.std.specs.declared.io.ErrorKind.{ErrorKind}
use Rattle.std.specs.declared.io.ErrorKind.TheVariants.{StorageFull, QuotaExceeded}
use Rattle.sled_disk.specs.declared.disk.DiskError.{DiskError}
use Rattle.sled_host.specs.Stops.{told_as}

-- the disk has no room, or the user has none left of it
abbrev pub is_full_kind : ErrorKind → Bool
is_full_kind StorageFull = true
is_full_kind QuotaExceeded = true
is_full_kind _ = false

-- what was refused for want of room is told as full, and every other refusal as failed
abbrev pub is_told : {T S : Type 0} → ℕ → Result T Error → Result S DiskError → Type 0
is_told counted (Ok done) told = Unit {0}
is_told counted (Err e) told = told ≡ Err (told_as counted (is_full_kind (error_kind e)))
