-- After a call that the system did not do, no more calls of a file are made. After one that changes it, it is not read.
use Rattle.std.specs.Prelude.{ℕ, ◌-◌, ◌^◌, Bool, true, false, not, List, [], ◌∷◌, drop, nat_lt, if◌then◌else◌}
use Rattle.std.specs.List.{list_all}
use Rattle.sled_disk.specs.declared.disk.DiskError.{DiskError}
use Rattle.sled_disk.specs.declared.disk.DiskError.TheVariants.{NoMemory, Full, Failed}
use Rattle.sled_host.specs.Event.{Event, opened, wrote, cut, synced}

-- the system answered that the call was done
abbrev pub is_done : Event → Bool
is_done (opened is_new bytes) = true
is_done (wrote at bytes done) = done
is_done (cut n done) = done
is_done (synced done) = done

-- the newest call was not done
abbrev pub has_failed : List Event → Bool
has_failed [] = false
has_failed (last ∷ earlier) = not (is_done last)

-- all calls but the newest were done
abbrev pub has_stopped : List Event → Bool
has_stopped events = list_all is_done (drop 1 events)

-- the call leaves the bytes of the file as they are
abbrev pub is_no_change : Event → Bool
is_no_change (opened is_new bytes) = true
is_no_change (wrote at bytes done) = false
is_no_change (cut n done) = false
is_no_change (synced done) = true

-- no call was made that changes the file
abbrev pub is_unchanged : List Event → Bool
is_unchanged events = list_all is_no_change events

-- a fault is told as what it is while it can be counted
abbrev pub told_as : ℕ → Bool → DiskError
told_as counted is_full = if nat_lt counted (2 ^ 64 - 1) then (if is_full then Full else Failed) else NoMemory
