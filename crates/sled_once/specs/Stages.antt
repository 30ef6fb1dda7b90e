-- How far a block has come that is brought to the disk in one sync, and what the disk has meanwhile.
use Rattle.std.specs.Prelude.{◌≡◌, ◌⊎◌, ◌+◌, ◌<◌, ◌^◌, ℕ, Bool, true, false, List, [], ◌∷◌, length, drop, Some, Ok}
use Rattle.sled_disk.specs.Disk.{written, Torn, Only, NoMore}
use Rattle.sled_log.specs.Digest.{digest}
use Rattle.sled_log.specs.Log.{opened, next_of, IsLog}
use Rattle.sled_log.specs.Append.{behind_gate}
use Rattle.sled_log.specs.Tear.{log_to_tear}
use Rattle.sled_host.specs.Event.{Event}
use Rattle.sled_host.specs.Outcomes.{seen_after_all, LeftAfterAll, MayLeave}
use Rattle.sled_once.specs.declared.stage.End.{End}
use Rattle.sled_once.specs.declared.stage.End.TheVariants.{Unknown, Closed, Staged}
use Rattle.sled_once.specs.declared.stage.Stage.{Stage}
use Rattle.sled_once.specs.declared.stage.Stage.TheVariants.{Through, Held, Opened, Torn as TornOff, Stopped}

-- the bytes are those of a block behind its gate, and then a closed gate
pub record IsBlock (bytes : List ℕ) : Type 0 where
  pub payload : List ℕ
  pub fits : length payload < 2 ^ 64
  pub is : bytes ≡ behind_gate digest payload

-- the file is a log whose closed gate is at this place
pub record EndsIn (gate : ℕ) (file : List ℕ) : Type 0 where
  pub payloads : List (List ℕ)
  pub log : IsLog digest file payloads gate

-- it is one behind whose closed gate a block of this many bytes was written
pub record IsStaged (gate count : ℕ) (file : List ℕ) : Type 0 where
  pub before : List ℕ
  pub ends : EndsIn gate before
  pub bytes : List ℕ
  pub block : IsBlock bytes
  pub count_is : length bytes ≡ count
  pub is : file ≡ written (gate + 1) bytes before

-- what is known of where the log of a file ends
abbrev pub EndsAs : End → List ℕ → Type 0
EndsAs Unknown file = Unit {0}
EndsAs (Closed gate) file = EndsIn gate file
EndsAs (Staged gate count) file = IsStaged gate count file

-- A file is read as another one: it is the same, or both are logs of the same payloads up to a tear, one at least
abbrev pub IsReadAs : List ℕ → List ℕ → Type 0
IsReadAs file c = (c ≡ file) ⊎ ((log_to_tear digest c ≡ log_to_tear digest file) × (log_to_tear digest file ≡ [] → ⊥))

-- what is left is read as something that the calls may have left
pub record IsReadAsLeft (calls : List Event) (c : List ℕ) : Type 0 where
  pub file : List ℕ
  pub left : MayLeave calls file
  pub is_read : IsReadAs file c

-- the digest tells what was left of a block: if a whole open block is at its gate, it is this one
abbrev pub IsToldAt : ℕ → List ℕ → List ℕ → Type 0
IsToldAt gate bytes c = (read new : List ℕ) → next_of digest (drop gate c) ≡ Ok (Some read) → bytes ≡ behind_gate digest new → read ≡ new

-- it is read as one of these files
abbrev pub IsReadAsOne : (List ℕ → Type 0) → List ℕ → Type 0
IsReadAsOne files c = (file : List ℕ) × files file × IsReadAs file c

-- what a crash leaves while a block and its open gate are written
pub record IsTornFrom (gate : ℕ) (bytes file c : List ℕ) : Type 0 where
  pub staged : List ℕ
  pub block_torn : Torn (gate + 1) bytes file staged
  pub gate_torn : Torn gate (opened ∷ []) staged c

-- It was left of a block and its open gate, which were being written behind the closed gate at the end of a file. With the block behind it,
-- and the gate still closed, that file is one of these
pub record IsTornOf (files : List ℕ → Type 0) (gate : ℕ) (bytes c : List ℕ) : Type 0 where
  pub file : List ℕ
  pub ends : EndsIn gate file
  pub last : gate + 1 ≡ length file
  pub behind : 0 < gate
  pub block : IsBlock bytes
  pub under_way : files (written (gate + 1) bytes file)
  pub torn : IsTornFrom gate bytes file c

-- What a crash leaves is read as one of these files, if the digest tells what was left of some block. What it does not tell was left of this
-- block, which was under way
pub record LeavesReadAs (files may_leave : List ℕ → Type 0) : Type 0 where
  pub gate : ℕ
  pub bytes : List ℕ
  pub each : (c : List ℕ) → may_leave c → IsToldAt gate bytes c → IsReadAsOne files c
  pub untold : (c : List ℕ) → may_leave c → (IsToldAt gate bytes c → ⊥) → IsTornOf (IsReadAsOne files) gate bytes c

-- the digest tells what was left of the block under way, if its gate may be open on the disk
abbrev pub IsTold : Stage → List ℕ → Type 0
IsTold (Through end synced) c = Unit {0}
IsTold (Held gate block) c = Unit {0}
IsTold (Opened gate block) c = IsToldAt gate block.items c
IsTold (TornOff gate block) c = IsToldAt gate block.items c
IsTold Stopped c = Unit {0}

-- it was left of the block under way
abbrev pub IsTornIn : Stage → (List ℕ → Type 0) → List ℕ → Type 0
IsTornIn (Opened gate block) files c = IsTornOf files gate block.items c
IsTornIn (TornOff gate block) files c = IsTornOf files gate block.items c
IsTornIn _ files c = ⊥

-- whether no block is under way
abbrev pub is_through : Stage → Bool
is_through (Through end synced) = true
is_through _ = false

-- a call was refused, and no more are made
abbrev pub IsOver : Stage → Type 0
IsOver (TornOff gate block) = Unit {0}
IsOver Stopped = Unit {0}
IsOver _ = ⊥

-- no block is under way, or no more calls are made: a call may be refused
abbrev pub IsAtRest : Stage → Type 0
IsAtRest (Held gate block) = ⊥
IsAtRest (Opened gate block) = ⊥
IsAtRest _ = Unit {0}

-- no block is under way: the disk has what the calls made of it
pub record IsThrough {D : Type 0} (seen : D → List ℕ) (may_leave : D → List ℕ → Type 0) (end : End) (synced : Bool) (disk : D) (calls : List Event) : Type 0 where
  pub same : seen disk ≡ seen_after_all calls
  pub left : NoMore (LeftAfterAll calls) (may_leave disk)
  pub ends : EndsAs end (seen disk)
  pub only : synced ≡ true → Only (seen disk) (may_leave disk)

-- a block is held back, that is to be behind the closed gate which is the last byte of the disk's file, and not the first one
pub record IsHeld {D : Type 0} (seen : D → List ℕ) (may_leave : D → List ℕ → Type 0) (gate : ℕ) (bytes : List ℕ) (disk : D) (calls : List Event) : Type 0 where
  pub only : Only (seen disk) (may_leave disk)
  pub ends : EndsIn gate (seen disk)
  pub last : gate + 1 ≡ length (seen disk)
  pub behind : 0 < gate
  pub small : gate + 1 < 2 ^ 64
  pub block : IsBlock bytes
  pub shows : seen_after_all calls ≡ written (gate + 1) bytes (seen disk)

-- the block and its open gate were written, and no sync followed
pub record IsOpen {D : Type 0} (seen : D → List ℕ) (may_leave : D → List ℕ → Type 0) (gate : ℕ) (bytes : List ℕ) (disk : D) (calls : List Event) : Type 0 where
  pub file : List ℕ
  pub ends : EndsIn gate file
  pub last : gate + 1 ≡ length file
  pub behind : 0 < gate
  pub block : IsBlock bytes
  pub same : seen disk ≡ seen_after_all calls
  pub shows : seen disk ≡ written gate (opened ∷ []) (written (gate + 1) bytes file)
  pub torn : (c : List ℕ) → may_leave disk c → IsTornFrom gate bytes file c
  pub closed : LeftAfterAll calls (written (gate + 1) bytes file)

-- the block or its open gate was to be written or synced, and that was refused
pub record IsTornOff {D : Type 0} (may_leave : D → List ℕ → Type 0) (gate : ℕ) (bytes : List ℕ) (disk : D) (calls : List Event) : Type 0 where
  pub told : (c : List ℕ) → may_leave disk c → IsToldAt gate bytes c → IsReadAsLeft calls c
  pub torn : (c : List ℕ) → may_leave disk c → IsTornOf (MayLeave calls) gate bytes c

-- a disk after the calls of its user
abbrev pub Agrees : {D : Type 0} → (D → List ℕ) → (D → List ℕ → Type 0) → Stage → D → List Event → Type 0
Agrees seen may_leave (Through end synced) disk calls = IsThrough seen may_leave end synced disk calls
Agrees seen may_leave (Held gate block) disk calls = IsHeld seen may_leave gate block.items disk calls
Agrees seen may_leave (Opened gate block) disk calls = IsOpen seen may_leave gate block.items disk calls
Agrees seen may_leave (TornOff gate block) disk calls = IsTornOff may_leave gate block.items disk calls
Agrees seen may_leave Stopped disk calls = (c : List ℕ) → may_leave disk c → IsReadAsLeft calls c

-- and what a read returns of it may be left
pub record Stands {D : Type 0} (seen : D → List ℕ) (may_leave : D → List ℕ → Type 0) (stage : Stage) (disk : D) (calls : List Event) : Type 0 where
  pub stays : LeftAfterAll calls (seen_after_all calls)
  pub agrees : Agrees seen may_leave stage disk calls
