-- Which openings of two files are refused, and what is known of the files of others.
use Rattle.std.specs.Prelude.{◌≡◌, ◌⊎◌, Bool, true, false, ◌&&◌}
use Rattle.sled_host.specs.Host.{IsUntouched, WasThere, was_locked, HasNoLocks}
use Rattle.sled_host.specs.declared.host.HostFile.{HostFile}
use Rattle.sled_host.specs.declared.pair.HostError.{HostError}
use Rattle.sled_host.specs.declared.pair.HostError.TheVariants.{NoLocks, Locked}
use Rattle.sled_host.specs.declared.pair.Opening.{Opening}

-- files of an opening that makes none were there before
abbrev pub AreFound : Opening → HostFile → HostFile → Type 0
AreFound opening first second = opening.creates ≡ false → WasThere first × WasThere second

-- Both files were opened, and nothing was done to them since. An opening that makes none found them. Both are locked if this says so, and
-- it does unless the system answered that it cannot lock one, and none is needed
pub record OpensPair (opening : Opening) (first second : HostFile) (is_locked : Bool) : Type 0 where
  pub untouched : IsUntouched first × IsUntouched second
  pub found : AreFound opening first second
  pub locked : is_locked ≡ (was_locked first && was_locked second)
  pub unlocked : is_locked ≡ false → HasNoLocks first ⊎ HasNoLocks second
  pub needed : opening.needs_lock ≡ true → is_locked ≡ true

-- no lock was refused
abbrev pub is_no_lock : HostError → Type 0
is_no_lock Locked = ⊥
is_no_lock (NoLocks e) = ⊥
is_no_lock e = Unit {0}

-- That a file system has no locks is no cause unless they are needed. The system alone knows the other causes
abbrev pub is_why_unpaired : Opening → HostError → Type 0
is_why_unpaired opening (NoLocks e) = opening.needs_lock ≡ true
is_why_unpaired opening e = Unit {0}
