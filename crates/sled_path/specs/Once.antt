-- The outcome of opening a database in a folder whose blocks are brought to the disk in one sync.
use Rattle.std.specs.Prelude.{◌≡◌, ◌⊎◌, Bool, false}
use Rattle.sled_nodes.specs.Order.{Key}
use Rattle.sled_store.specs.Store.{Store}
use Rattle.sled_disk.specs.Disk.{Only}
use Rattle.sled_files.specs.Files.{Files}
use Rattle.sled_files.specs.Stored.{Stored}
use Rattle.sled_host.specs.Host.{bytes_of, outcomes_of}
use Rattle.sled_host.specs.Pair.{OpensPair}
use Rattle.sled_host.specs.declared.host.HostFile.{HostFile}
use Rattle.sled_host.specs.declared.pair.Opening.{Opening}
use Rattle.sled_once.specs.Once.{Once}
use Rattle.sled_once.specs.Once as once
use Rattle.sled_once.specs.Stages.{IsTold}
use Rattle.files_once.specs.Mended.{IsMended}
use Rattle.sled.specs.Values.{DbValue}
use Rattle.sled_path.specs.Path.{StoreOver, OpensOver, WereHonest, GoesOnFrom, is_why_closed_over}
use Rattle.sled_path.specs.declared.error.OpenError.{OpenError}

-- Two files of an opening, mended. What was made of them is on the disk
pub record AreMended (opening : Opening) (is_locked : Bool) (first second : HostFile) : Type 0 where
  pub first_found : HostFile
  pub second_found : HostFile
  pub pair : OpensPair opening first_found second_found is_locked
  pub first_mended : IsMended (bytes_of first_found) (bytes_of first)
  pub second_mended : IsMended (bytes_of second_found) (bytes_of second)
  pub first_only : Only (bytes_of first) (outcomes_of first)
  pub second_only : Only (bytes_of second) (outcomes_of second)

-- the options of an opening of files that are there by now
abbrev pub again_of : Opening → Opening
again_of opening = record { creates = false; needs_lock = opening.needs_lock }

-- Two files that are opened once they were mended: these, if none was torn and they are read as they were found, or else the same anew, as
-- they were there then
pub record AreWhole (opening : Opening) (is_locked : Bool) (first second : HostFile) : Type 0 where
  pub was_locked : Bool
  pub first_left : HostFile
  pub second_left : HostFile
  pub mended : AreMended opening was_locked first_left second_left
  pub again : ((first ≡ first_left) × (second ≡ second_left) × (is_locked ≡ was_locked) × (bytes_of first ≡ bytes_of mended.first_found) × (bytes_of second ≡ bytes_of mended.second_found)) ⊎ OpensPair (again_of opening) first second is_locked

-- the store that they stand for, or a new one if both are blank
abbrev pub StoreOnceIn : Opening → Bool → Files (Once HostFile) → Store → Type 0
StoreOnceIn opening is_locked files store = StoreOver once.bytes_of once.outcomes_of (AreWhole opening is_locked) files store

-- a database was opened of them
abbrev pub OpensOnceIn : {M : Type 0} → Opening → Bool → Key → DbValue (Stored (Once HostFile)) M → Type 0
OpensOnceIn opening is_locked name db = OpensOver once.bytes_of once.outcomes_of (AreWhole opening is_locked) name db

-- why none was. `Disk` may also be of a call that mends them
abbrev pub is_why_closed_once : Opening → OpenError → Type 0
is_why_closed_once opening e = is_why_closed_over {D = Once HostFile} once.bytes_of once.outcomes_of (AreWhole opening) opening e

-- The disks were honest from a store's last call to the opening of these files and to their last one, and the digest told what was left of the
-- blocks under way
pub record WereHonestOnce {opening : Opening} {is_locked : Bool} {first second : HostFile} (old : Stored (Once HostFile)) (whole : AreWhole opening is_locked first second) : Type 0 where
  pub found : WereHonest old.files.first.disk old.files.second.disk whole.mended.first_found whole.mended.second_found
  pub first_told : IsTold old.files.first.stage (bytes_of whole.mended.first_found)
  pub second_told : IsTold old.files.second.stage (bytes_of whole.mended.second_found)
  pub again : WereHonest whole.first_left whole.second_left first second

-- then the store that is opened in one sync goes on from it
abbrev pub GoesOnOnce : Stored (Once HostFile) → Type 0
GoesOnOnce old = (opening : Opening) (is_locked : Bool) (files : Files (Once HostFile)) (found : Store) (is : StoreOnceIn opening is_locked files found) → WereHonestOnce old is.are → GoesOnFrom old found
