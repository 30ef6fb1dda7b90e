-- What is found in two files after a crash.
use Rattle.std.specs.Prelude.{◌≡◌, ◌≤◌, Bool, List}
use Rattle.sled_store.specs.In.{In}
use Rattle.sled_nodes.specs.Order.{Key}
use Rattle.sled_nodes.specs.declared.error.Error.{Error}
use Rattle.sled_nodes.specs.declared.error.Error.TheVariants as error
use Rattle.sled_store.specs.Store.{Store, now}
use Rattle.sled_model.specs.Maps.{Maps, Merge}
use Rattle.sled_model.specs.declared.outcome.Step.{Step}
use Rattle.sled_model.specs.declared.outcome.Outcome.{Outcome}
use Rattle.tree_laws.specs.Contents.{trees_of}
use Rattle.sled.specs.Opens.{with_default, Opens}
use Rattle.sled.specs.Values.{DbValue}
use Rattle.machine_alone.specs.CrashMaps.{AreCrashMaps}
use Rattle.machine_alone.specs.Run.{KeepsCrashMaps}
use Rattle.machine_alone.specs.Values.{MachineValue}
use Rattle.sled_files.specs.Stored.{Stored, stored_as, asked_of, flush_number_in}
use Rattle.sled_files.specs.Opening.{is_refusal}
use Rattle.sled_files.specs.Laws.{GoesOn}
use Rattle.sled_host.specs.declared.host.HostFile.{HostFile}
use Rattle.sled_host.specs.declared.pair.Opening.{Opening}
use Rattle.sled_once.specs.Once.{Once}
use Rattle.sled_path.specs.Path.{OpensIn, WereHonest}
use Rattle.sled_path.specs.Once.{OpensOnceIn, WereHonestOnce}
use Rattle.example_files.specs.declared.lost.Lost.{Lost}
use Rattle.example_files.specs.declared.lost.Lost.TheVariants.{Steps, Crash, Files, Database}

-- these are maps of the list, with the default tree
pub record IsOneOf (kept : List Maps) (found : Maps) : Type 0 where
  pub left : Maps
  pub one : In left kept
  pub is : found ≡ with_default left

-- A database of this name was opened over what a crash left of the files of another. Its maps are of each list of maps that a crash
-- might leave of that one, and its ids go on
pub record Reopens {D E M : Type 0} (name : Key) (old : DbValue (Stored D) M) (new : DbValue (Stored E) M) : Type 0 where
  pub left : Store
  pub goes_on : GoesOn (asked_of old.pages.asked) old.pages.limits (stored_as old.pages) left
  pub opens : Opens stored_as left name new
  pub maps : (kept : List Maps) → AreCrashMaps (stored_as old.pages) kept → IsOneOf kept (trees_of (now (stored_as new.pages)))
  pub ids : old.greatest_id ≤ new.greatest_id

-- The steps were made, the disks crashed, and a database of this name was opened over what was left. The run keeps a list of maps that
-- a crash might leave: from the last flush on the one after each call that was decided. What is found is one of the list
pub record Survives {D E M : Type 0} (meant : M → Merge) (name : Key) (old : MachineValue (Stored D) M) (steps : List Step) (outcomes : List Outcome) (new : MachineValue (Stored D) M) (found : DbValue (Stored E) M) : Type 0 where
  pub reopens : Reopens name new.db found
  pub keeps : (kept : List Maps) → AreCrashMaps (stored_as old.db.pages) kept → KeepsCrashMaps stored_as flush_number_in meant old steps outcomes new kept
  pub maps : (kept : List Maps) (before : AreCrashMaps (stored_as old.db.pages) kept) → IsOneOf (keeps kept before).last (trees_of (now (stored_as found.pages)))

-- A database that `open` opens in a folder finds maps of each list that a crash might have left of this one before, if the disks were
-- honest meanwhile
abbrev pub FindsMaps : {M : Type 0} → DbValue (Stored HostFile) M → Type 0
FindsMaps {M} old = (opening : Opening) (is_locked : Bool) (name : Key) (new : DbValue (Stored HostFile) M) (is : OpensIn opening is_locked name new)
    → WereHonest old.pages.files.first old.pages.files.second is.over.is.first is.over.is.second
    → (kept : List Maps) → AreCrashMaps (stored_as old.pages) kept → IsOneOf kept (trees_of (now (stored_as new.pages)))

-- and so does one that `open_once` opens, if the digest told what was left of the blocks under way
abbrev pub FindsMapsOnce : {M : Type 0} → DbValue (Stored (Once HostFile)) M → Type 0
FindsMapsOnce {M} old = (opening : Opening) (is_locked : Bool) (name : Key) (new : DbValue (Stored (Once HostFile)) M) (is : OpensOnceIn opening is_locked name new)
    → WereHonestOnce old.pages is.is.are
    → (kept : List Maps) → AreCrashMaps (stored_as old.pages) kept → IsOneOf kept (trees_of (now (stored_as new.pages)))

-- refused for want of memory, or for a fault
abbrev pub is_passing : Error → Type 0
is_passing error.NoMemory = Unit {0}
is_passing (error.Io fault) = Unit {0}
is_passing _ = ⊥

-- nothing is lost: it was refused for want of memory, or as a disk refused a call
abbrev pub is_no_loss : Lost → Type 0
is_no_loss (Steps e) = is_passing e
is_no_loss (Crash e) = Unit {0}
is_no_loss (Files e) = is_refusal e
is_no_loss (Database e) = is_passing e
