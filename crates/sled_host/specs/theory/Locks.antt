-- Of locks, for proofs: what the system answered, as it is noted and as it is told.
use Rattle.std.specs.Prelude.{◌≡◌, Result, Ok, Err}
use Rattle.std.specs.declared.fs.TryLockError.{TryLockError}
use Rattle.std.specs.declared.fs.TryLockError.TheVariants.{WouldBlock, Error}
use Rattle.sled_host.specs.declared.system.Lock.{Lock}
use Rattle.sled_host.specs.declared.system.Lock.TheVariants.{Held, Elsewhere, Unavailable}
use Rattle.sled_host.specs.declared.pair.HostError.{HostError}
use Rattle.sled_host.specs.declared.pair.HostError.TheVariants.{NoLocks, Locked}

-- the answer, as it is noted
abbrev pub answer_of : {T : Type 0} → Result T TryLockError → Lock
answer_of (Ok done) = Held
answer_of (Err WouldBlock) = Elsewhere
answer_of (Err (Error e)) = Unavailable

-- why a file was not locked: what the system answered
abbrev pub is_why_unlocked : Lock → HostError → Type 0
is_why_unlocked answer Locked = answer ≡ Elsewhere
is_why_unlocked answer (NoLocks e) = answer ≡ Unavailable
is_why_unlocked answer e = ⊥
