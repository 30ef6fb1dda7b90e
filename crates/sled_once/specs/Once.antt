-- A disk that brings a block and its gate to another one in one sync, as its user sees it.
use Rattle.std.specs.Prelude.{◌≡◌, ℕ, ◌+◌, false, List, length, Result, Err}
use Rattle.sled_disk.specs.declared.disk.DiskError.{DiskError}
use Rattle.sled_host.specs.Event.{Event}
use Rattle.sled_host.specs.Outcomes.{seen_after_all, MayLeave, LeftSince}
use Rattle.sled_host.specs.Stops.{told_as}
use Rattle.sled_once.specs.declared.stage.Stage.{Stage}
use Rattle.sled_once.specs.Stages.{IsTold, IsTornIn, IsReadAsLeft, IsOver}

-- The disk behind it, the calls of its user, the newest first, how far the block under way has come, and how many calls it refused itself
pub record Once (D : Type 0) : Type 0 where
  pub disk : D
  pub calls : List Event
  pub stage : Stage
  pub refused : ℕ

-- what a read returns: what the calls made of the file
abbrev pub bytes_of : {D : Type 0} → Once D → List ℕ
bytes_of f = seen_after_all f.calls

-- what a crash may leave of it in two syncs
abbrev pub outcomes_of : {D : Type 0} → Once D → List ℕ → Type 0
outcomes_of f = MayLeave f.calls

-- the moment: how many calls it had
abbrev pub moment_of : {D : Type 0} → Once D → ℕ
moment_of f = length f.calls

-- what a crash at some moment from that one on might have left
abbrev pub outcomes_since : {D : Type 0} → Once D → ℕ → List ℕ → Type 0
outcomes_since f = LeftSince f.calls

-- how many calls were refused for a fault, by the disk behind it or by itself
abbrev pub faults_of : {D : Type 0} → (D → ℕ) → Once D → ℕ
faults_of faults f = faults f.disk + f.refused

-- Once the disk behind it refused a call that changes it, each later call is refused as failed, and none of it is made
abbrev pub StaysStopped : {D T : Type 0} → Once D → Once D → Result T DiskError → Type 0
StaysStopped old new result = IsOver old.stage → (result ≡ Err (told_as old.refused false)) × (new.disk ≡ old.disk) × (new.stage ≡ old.stage)

-- If the digest tells what was left of the block under way, whatever a crash leaves of the disk is read as something that it may leave of
-- this one. What it does not tell was left of that block
pub record LeavesAsRead {D : Type 0} (may_leave : D → List ℕ → Type 0) (f : Once D) : Type 0 where
  pub each : (c : List ℕ) → may_leave f.disk c → IsTold f.stage c → IsReadAsLeft f.calls c
  pub untold : (c : List ℕ) → may_leave f.disk c → (IsTold f.stage c → ⊥) → IsTornIn f.stage (MayLeave f.calls) c
