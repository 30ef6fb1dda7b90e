-- What a disk in memory shows.
use Rattle.std.specs.Prelude.{◌≡◌, ℕ, ◌+◌, ◌^◌, ◌<◌, min, false, length, List, [], ◌∷◌, ◌++◌, Result, OnOk, OnErr, IfErr}
use Rattle.std.specs.Global.{Vec}
use Rattle.std.specs.List.{All}
use Rattle.sled_disk.specs.declared.disk.DiskError.{DiskError}
use Rattle.sled_disk.specs.declared.memory.MemoryDisk.{MemoryDisk}
use Rattle.sled_disk.specs.declared.memory.Call.{Call}
use Rattle.sled_disk.specs.declared.memory.Call.TheVariants.{Write}
use Rattle.sled_disk.specs.Calls.{MayLeave, LeftSince}
use Rattle.sled_disk.specs.Chosen.{left_by}
use Rattle.sled_disk.specs.Refusals.{last_number, is_refused, refusal_of}

-- what a read returns
abbrev pub bytes_of : MemoryDisk → List ℕ
bytes_of m = m.bytes.items

-- what it was at first, and the calls since that changed it
abbrev pub history_of : MemoryDisk → List ℕ × List Call
history_of m = (m.first.items, m.calls.items)

-- the same after one call more
abbrev pub with_call : Call → List ℕ × List Call → List ℕ × List Call
with_call call history = (history.0, history.1 ++ call ∷ [])

-- the same after a write of these bytes
abbrev pub IsWritten : ℕ → List ℕ → MemoryDisk → MemoryDisk → Type 0
IsWritten at bytes old new = (v : Vec ℕ) × (v.items ≡ bytes) × (history_of new ≡ with_call (Write at v) (history_of old))

-- what a crash may leave
abbrev pub outcomes_of : MemoryDisk → List ℕ → Type 0
outcomes_of m = MayLeave (history_of m).0 (history_of m).1

-- what a crash after some number of its calls might have left, from this one on, and how many calls it had
abbrev pub left_since_of : MemoryDisk → ℕ → List ℕ → Type 0
left_since_of m = LeftSince (history_of m).0 (history_of m).1

abbrev pub moment_of : MemoryDisk → ℕ
moment_of m = length (history_of m).1

-- what a crash leaves by the numbers of a test, and which of them have not chosen then
abbrev pub left_by_choices : MemoryDisk → List ℕ → List ℕ
left_by_choices m numbers = (left_by (history_of m).1 numbers (history_of m).0).0

abbrev pub choices_left : MemoryDisk → List ℕ → List ℕ
choices_left m numbers = (left_by (history_of m).1 numbers (history_of m).0).1

-- by some numbers of 64 bits, as many as it takes, `crash` leaves this
abbrev pub IsChosen : MemoryDisk → List ℕ → Type 0
IsChosen m c = (numbers : List ℕ) × All (λ n. n < 2 ^ 64) numbers × (left_by_choices m numbers ≡ c)

-- Each outcome that the disk may leave is left by some numbers, if it is one of bytes: `Torn` does not say that what a crash leaves
-- in the range of a write is below 256.
pub record ChoosesAll (m : MemoryDisk) : Type 0 where
  pub each : (c : List ℕ) → outcomes_of m c → All (λ b. b < 256) c → IsChosen m c

-- the numbers of the calls that are refused
abbrev pub calls_refused : MemoryDisk → List ℕ
calls_refused m = m.refused.items

-- how many calls were made
abbrev pub calls_made : MemoryDisk → ℕ
calls_made m = m.made

-- how many calls were refused for a fault
abbrev pub faults_of : MemoryDisk → ℕ
faults_of m = m.faults

-- A call of a disk in memory, with this fault if its number was named. A call whose number was not is refused for want of memory alone. A
-- refused call changes nothing, but that it is counted.
pub record IsCall {T : Type 0} (fault : DiskError) (old new : MemoryDisk) (result : Result T DiskError) : Type 0 where
  pub counted : calls_made new ≡ min (calls_made old + 1) last_number
  pub named : calls_refused new ≡ calls_refused old
  pub done : OnOk result (is_refused (calls_made old) (calls_refused old) ≡ false)
  pub refused : IfErr result (λ e. e ≡ refusal_of fault (calls_made old) (calls_refused old) (faults_of old))
  pub kept : OnErr result ((bytes_of new ≡ bytes_of old) × (history_of new ≡ history_of old))
