-- What is handed back where the way ends before the number is found again.
use Rattle.std.specs.Prelude.{◌≡◌, IfSome, true}
use Rattle.sled_pages.specs.Memory.{store_of}
use Rattle.sled_pages.specs.declared.memory.MemPages.{MemPages}
use Rattle.sled_model.specs.Maps.{Merge}
use Rattle.sled.specs.Values.{DbValue}
use Rattle.machine_shared.specs.Shared.{RefusesFlushed, opening_of}
use Rattle.example_crashes.specs.Crashing.{CanOpen}
use Rattle.example_crashes.specs.declared.crash.Left.{Left}
use Rattle.example_crashes.specs.declared.crash.Left.TheVariants.{Unopened, Unread, Nothing}
use Rattle.example_crashes.specs.declared.way.Stopped.{Stopped}
use Rattle.example_crashes.specs.declared.way.Stopped.TheVariants.{Unshared, Unraised, Uncrashed, Unfound}

-- pages that are handed back can be opened
abbrev pub is_left : {M : Type 0} → Left M → Type 0
is_left (Unopened pages e) = CanOpen (store_of pages)
is_left (Unread db e) = Unit {0}
is_left Nothing = Unit {0}

-- A database that was not shared is as it was, or its flush was refused; a state has the opening that the database had when it was shared; and
-- pages can be opened
abbrev pub stopped_as : {L M : Type 0} → (M → Merge) → DbValue MemPages M → Stopped L M → Type 0
stopped_as meant db (Unshared left e) = RefusesFlushed store_of meant db left e
stopped_as meant db (Unraised left) = IfSome left (λ s. s.opening ≡ opening_of store_of true db)
stopped_as meant db (Uncrashed left e) = Unit {0}
stopped_as meant db (Unfound left) = is_left left
