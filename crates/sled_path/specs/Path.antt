-- The outcome of opening a database in a folder.
use Rattle.std.specs.Prelude.{ℕ, List, length, Bool, true}
use Rattle.sled_nodes.specs.Order.{Key}
use Rattle.sled_nodes.specs.declared.error.Error.TheVariants.{NoMemory, Corruption}
use Rattle.sled_nodes.specs.declared.error.Fault.{Fault}
use Rattle.sled_store.specs.Store.{Store, now}
use Rattle.sled_files.specs.Files.{Files}
use Rattle.sled_files.specs.Stored.{Stored, stored_as, asked_of}
use Rattle.sled_files.specs.Laws.{GoesOn}
use Rattle.sled_files.specs.Opening.{OpensTo, LeavesWhileOpened, is_why_unopened, is_fault}
use Rattle.sled_files.specs.declared.found.OpenError as file
use Rattle.sled_host.specs.Host.{calls_of, bytes_of, outcomes_of, outcomes_since, IsHonest}
use Rattle.sled_host.specs.Pair.{OpensPair, is_why_unpaired}
use Rattle.sled_host.specs.declared.host.HostFile.{HostFile}
use Rattle.sled_host.specs.declared.pair.HostError.{HostError}
use Rattle.sled_host.specs.declared.pair.Opening.{Opening}
use Rattle.sled_host.specs.declared.pair.HostError.TheVariants as host
use Rattle.sled.specs.Values.{DbValue}
use Rattle.sled.specs.Opens.{Opens}
use Rattle.sled.specs.Checked.{RefusesFit, IsFit}
use Rattle.sled_path.specs.declared.error.OpenError.{OpenError}
use Rattle.sled_path.specs.declared.error.OpenError.TheVariants.{NotAStore, OtherFormat, Decayed, Locked, Io, Disk, Database}

-- the store that two files stand for, of which this is known, or a new one if both are blank
pub record StoreOver {D : Type 0} (seen : D → List ℕ) (may_leave : D → List ℕ → Type 0) (known : HostFile → HostFile → Type 0) (files : Files D) (store : Store) : Type 0 where
  pub first : HostFile
  pub second : HostFile
  pub are : known first second
  pub opens : OpensTo seen may_leave (bytes_of first) (bytes_of second) files store

-- a database of this name was opened over it. Its pages are those of a database
pub record OpensOver {D M : Type 0} (seen : D → List ℕ) (may_leave : D → List ℕ → Type 0) (known : HostFile → HostFile → Type 0) (name : Key) (db : DbValue (Stored D) M) : Type 0 where
  pub files : Files D
  pub store : Store
  pub is : StoreOver seen may_leave known files store
  pub fit : IsFit (now store)
  pub opens : Opens stored_as store name db

-- two files, of which this is known, are refused for this, the first thing that is wrong with them
pub record AreRefused (known : Bool → HostFile → HostFile → Type 0) (e : file.OpenError) : Type 0 where
  pub first : HostFile
  pub second : HostFile
  pub is_locked : Bool
  pub are : known is_locked first second
  pub why : is_why_unopened e (bytes_of first) (bytes_of second)

-- a store was opened whose pages are not those of a database. The check of them found this
pub record IsUnfit {D : Type 0} (seen : D → List ℕ) (may_leave : D → List ℕ → Type 0) (known : Bool → HostFile → HostFile → Type 0) (finding : Fault) : Type 0 where
  pub files : Files D
  pub store : Store
  pub is_locked : Bool
  pub is : StoreOver seen may_leave (known is_locked) files store
  pub why : RefusesFit store (Corruption finding)

-- What the operating system refused: want of memory, and a database that is open elsewhere, have names of their own. That there are no
-- locks is no cause unless they are needed
abbrev pub is_of_system : Opening → HostError → Type 0
is_of_system opening host.NoMemory = ⊥
is_of_system opening host.Locked = ⊥
is_of_system opening e = is_why_unpaired opening e

-- Two disks were honest from the last calls of these files to the next opening, which found these
pub record WereHonest (first second first_found second_found : HostFile) : Type 0 where
  pub first_is : IsHonest first (bytes_of first_found)
  pub second_is : IsHonest second (bytes_of second_found)

-- a store that was opened goes on from one in files, with its mark and its limits
abbrev pub GoesOnFrom : {D : Type 0} → Stored D → Store → Type 0
GoesOnFrom old found = GoesOn (asked_of old.asked) old.limits (stored_as old) found

-- Why no database was opened:
--
-- `NotAStore`, `OtherFormat`, `Decayed`: what was read of the two files is not a store, and this is wrong with it.
-- `Locked`: nothing is claimed. The code returns it if the system answered that a file is open elsewhere.
-- `Io`: want of memory and `Locked` have names of their own, and that there are no locks is a cause only if they are needed.
-- `Disk`: no want of memory. The code returns it if both files were opened, and a later call of one was refused, or one of the store for a fault.
-- `Database`: want of memory, or the files have a store and its pages are not those of a database.
abbrev pub is_why_closed_over : {D : Type 0} → (D → List ℕ) → (D → List ℕ → Type 0) → (Bool → HostFile → HostFile → Type 0) → Opening → OpenError → Type 0
is_why_closed_over seen may_leave known opening NotAStore = AreRefused known file.TheVariants.NotAStore
is_why_closed_over seen may_leave known opening (OtherFormat other) = AreRefused known (file.TheVariants.OtherFormat other)
is_why_closed_over seen may_leave known opening (Decayed place) = AreRefused known (file.TheVariants.Decayed place)
is_why_closed_over seen may_leave known opening Locked = Unit {0}
is_why_closed_over seen may_leave known opening (Io e) = is_of_system opening e
is_why_closed_over seen may_leave known opening (Disk e) = is_fault e
is_why_closed_over seen may_leave known opening (Database NoMemory) = Unit {0}
is_why_closed_over seen may_leave known opening (Database (Corruption finding)) = IsUnfit seen may_leave known finding
is_why_closed_over seen may_leave known opening (Database e) = ⊥

-- two files as they were found
abbrev pub AreAsFound : Opening → Bool → HostFile → HostFile → Type 0
AreAsFound opening is_locked first second = OpensPair opening first second is_locked

-- the store that they stand for, or a new one if both are blank
abbrev pub StoreIn : Opening → Bool → Files HostFile → Store → Type 0
StoreIn opening is_locked files store = StoreOver bytes_of outcomes_of (AreAsFound opening is_locked) files store

-- how many calls a file has had
abbrev pub moment_of : HostFile → ℕ
moment_of file = length (calls_of file)

-- A database was opened of them. Until the store was, a crash left the files as they were found, or what begins a new store in blank ones
pub record OpensIn {M : Type 0} (opening : Opening) (is_locked : Bool) (name : Key) (db : DbValue (Stored HostFile) M) : Type 0 where
  pub over : OpensOver bytes_of outcomes_of (AreAsFound opening is_locked) name db
  pub meanwhile : LeavesWhileOpened bytes_of moment_of outcomes_since outcomes_of over.is.first over.is.second over.files.first over.files.second

-- why none was
abbrev pub is_why_closed : Opening → OpenError → Type 0
is_why_closed opening e = is_why_closed_over bytes_of outcomes_of (AreAsFound opening) opening e

-- the options of an opening that makes what is missing, and needs locks
abbrev pub usual : Opening
usual = record { creates = true; needs_lock = true }

-- if the disks were honest meanwhile, the store that is opened goes on from this one
abbrev pub GoesOnIn : Stored HostFile → Type 0
GoesOnIn old = (opening : Opening) (is_locked : Bool) (files : Files HostFile) (found : Store) (is : StoreIn opening is_locked files found) → WereHonest old.files.first old.files.second is.first is.second → GoesOnFrom old found
