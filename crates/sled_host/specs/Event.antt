-- The calls of an open file, with their answers.
use Rattle.std.specs.Prelude.{ℕ, Bool, List}

-- The opening: whether it made the file, and the bytes that it read; and since then each call that changes the file or brings it to the disk, and whether
-- the system answered that it was done. A call under way when the machine stops counts as one that was not done.
pub data Event : Type 0 where
  opened : Bool → List ℕ → Event
  wrote : ℕ → List ℕ → Bool → Event
  cut : ℕ → Bool → Event
  synced : Bool → Event
