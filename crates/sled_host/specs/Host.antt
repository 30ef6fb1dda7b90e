-- What a file of the operating system shows.
use Rattle.std.specs.Prelude.{◌≡◌, ℕ, Bool, false, List, [], ◌∷◌, length}
use Rattle.sled_host.specs.Event.{Event, opened}
use Rattle.sled_host.specs.Outcomes.{seen_after_all, MayLeave, LeftSince}
use Rattle.sled_host.specs.Locks.{is_held}
use Rattle.sled_host.specs.declared.system.Lock.TheVariants.{Unavailable}
use Rattle.sled_host.specs.declared.host.HostFile.{HostFile}

-- its calls so far, the newest first
abbrev pub calls_of : HostFile → List Event
calls_of file = file.system.record.events

-- what was read at its opening, with what was written since
abbrev pub bytes_of : HostFile → List ℕ
bytes_of file = seen_after_all (calls_of file)

-- what a crash may leave
abbrev pub outcomes_of : HostFile → List ℕ → Type 0
outcomes_of file = MayLeave (calls_of file)

-- the moment: how many calls it had
abbrev pub moment_of : HostFile → ℕ
moment_of file = length (calls_of file)

-- what a crash at some moment from that one on might have left
abbrev pub outcomes_since : HostFile → ℕ → List ℕ → Type 0
outcomes_since file = LeftSince (calls_of file)

-- its opening found it or made it, and no call came after that: it has what it had
abbrev pub IsUntouched : HostFile → Type 0
IsUntouched file = (is_new : Bool) × (calls_of file ≡ opened is_new (bytes_of file) ∷ [])

-- its opening found it, and no call came after that
abbrev pub WasThere : HostFile → Type 0
WasThere file = calls_of file ≡ opened false (bytes_of file) ∷ []

-- whether the system locked it as it was opened
abbrev pub was_locked : HostFile → Bool
was_locked file = is_held file.system.lock

-- the system answered that it cannot lock it
abbrev pub HasNoLocks : HostFile → Type 0
HasNoLocks file = file.system.lock ≡ Unavailable

-- how many calls were refused for a fault
abbrev pub faults_of : HostFile → ℕ
faults_of file = file.faults

-- The disk was honest from this opening to the next: what the next one found is what these calls may have left.
abbrev pub IsHonest : HostFile → List ℕ → Type 0
IsHonest file found = MayLeave (calls_of file) found
