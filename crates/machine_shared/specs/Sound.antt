-- What holds whenever the lock is free, beside what holds of the machine.
use Rattle.std.specs.Prelude.{◌≡◌, ℕ, ◌+◌, ◌^◌, ◌<◌, ◌≤◌, true, not, List, [], ◌∷◌, ◌++◌, length, None}
use Rattle.sled_store.specs.Store.{Store, now}
use Rattle.sled_model.specs.Maps.{Maps}
use Rattle.sled_model.specs.Collections.{Content}
use Rattle.sled_model.specs.State.{maps_of}
use Rattle.sled.specs.Values.{db_state}
use Rattle.machine_alone.specs.CrashMaps.{AreCrashMaps}
use Rattle.machine_alone.specs.Ids.{RiseBetween}
use Rattle.machine_alone.specs.Values.{MachineValue, slots_of}
use Rattle.machine_shared.specs.Made.{EntryValue}
use Rattle.machine_shared.specs.Crashes.{LeadsThrough}
use Rattle.machine_shared.specs.History.{IsLegal, maps_from, ids_made}
use Rattle.machine_shared.specs.Moments.{AreMoments}
use Rattle.machine_shared.specs.Scanned.{AreOfScans, AreScanned}
use Rattle.machine_shared.specs.UnderWay.{AreGoing}
use Rattle.machine_shared.specs.Values.{OpeningValue, StateValue}

-- the database is open
abbrev pub IsOpen : {P M : Type 0} → (P → Store) → MachineValue P M → Type 0
IsOpen store m = not (now (store m.db.pages)).in_group ≡ true

-- the maps of a machine now. No operator is needed for them
abbrev pub maps_now : {P M : Type 0} → (P → Store) → MachineValue P M → Maps
maps_now {P = P} {M = M} store m = maps_of (db_state store (λ (o : M) k value bytes. None) m.db)

-- a history is legal, from the opening to some maps
pub record Leads (opening : List Content) (history : List EntryValue) : Type 0 where
  pub last : Maps
  pub legal : IsLegal (maps_from opening) history last

-- A history leads from the opening to some maps, which are the maps now while the database is open. What a crash may leave are, in order:
-- what it might have left as the database was shared, the opening last; and then the maps after each entry of the history, and after each
-- of its parts. From the last flush in the history on it may leave those after it alone
pub record CrashLeaves {P M : Type 0} (store : P → Store) (m : MachineValue P M) (opening : List Content) (history : List EntryValue) : Type 0 where
  pub earlier : List Maps
  pub last : Maps
  pub left : List Maps
  pub leads : LeadsThrough (maps_from opening) (earlier ++ maps_from opening ∷ []) history last left
  -- the maps at each moment of the history
  pub moments : List Maps
  pub are : AreMoments (maps_from opening) history last moments
  pub now : IsOpen store m → last ≡ maps_now store m
  pub leaves : AreCrashMaps (store m.db.pages) left

-- While the database is open the history is legal, from the opening to the maps now; open or closed, it is legal to some maps, and so is
-- what a crash may leave, which is nothing of before an opening that was flushed. The ids in it rise, up to the greatest that was given; and
-- each entry is counted
pub record IsState {P M : Type 0} (store : P → Store) (m : MachineValue P M) (opening : OpeningValue) (history : List EntryValue) (total : ℕ) : Type 0 where
  pub legal : IsOpen store m → IsLegal (maps_from opening.contents) history (maps_now store m)
  pub leads : Leads opening.contents history
  pub crashes : CrashLeaves store m opening.contents history
  pub covers : opening.flushed ≡ true → crashes.earlier ≡ []
  pub ids : RiseBetween 0 (ids_made history) m.db.greatest_id
  pub counted : length history ≡ total

-- while the database of a state is open its history is legal, from the opening to the maps now
abbrev pub HasLegalHistory : {P M : Type 0} → (P → Store) → StateValue P M → Type 0
HasLegalHistory store s = IsOpen store s.machine → IsLegal (maps_from s.opening.contents) s.history (maps_now store s.machine)

-- open or closed, its history is legal, from the opening to some maps
abbrev pub HasHistory : {P M : Type 0} → StateValue P M → Type 0
HasHistory s = Leads s.opening.contents s.history

-- .. and what a crash may leave of its database follows it. If the database was flushed when it was shared, a crash leaves nothing of before
-- then: what it may leave begins with the opening
pub record HasCrashMaps {P M : Type 0} (store : P → Store) (s : StateValue P M) : Type 0 where
  pub follow : CrashLeaves store s.machine s.opening.contents s.history
  pub covers : s.opening.flushed ≡ true → follow.earlier ≡ []

-- .. and by the maps at each moment of its history, the last of which are the maps now while the database is open, each scan whose begin
-- was noted gave what scans give. Nothing else is noted, and while notes are kept the begin of each scan in flight is
pub record HasScans {P M : Type 0} (store : P → Store) (s : StateValue P M) : Type 0 where
  pub moments : List Maps
  pub last : Maps
  pub are : AreMoments (maps_from s.opening.contents) s.history last moments
  pub now : IsOpen store s.machine → last ≡ maps_now store s.machine
  pub gave : AreScanned moments s.scans.notes
  pub of_scans : AreOfScans [] s.scans.notes
  pub going : s.scans.keeps ≡ true → AreGoing (slots_of s.machine.flights) s.scans.notes

-- the ids in its history rise, up to the greatest that the database gave
abbrev pub HasRisingIds : {P M : Type 0} → StateValue P M → Type 0
HasRisingIds s = RiseBetween 0 (ids_made s.history) s.machine.db.greatest_id

-- so many parts of the ledger are left for the callers that have no handle, and one more, and there is a number for each caller
pub record HasParts (callers given before parts : ℕ) : Type 0 where
  pub few : given ≤ callers
  pub left : parts + given ≡ callers + 1
  pub numbers : before + callers < 2 ^ 64
