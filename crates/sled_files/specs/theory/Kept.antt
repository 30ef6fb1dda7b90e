-- What a raise of the limits leaves as it is.
use Rattle.std.specs.Prelude.{◌≡◌}
use Rattle.sled_files.specs.Stored.{Stored}

-- all but the files, the limits and the faults stays as it is
pub record KeepsPages {D : Type 0} (old new : Stored D) : Type 0 where
  pub pages : new.pages ≡ old.pages
  pub pending : new.pending ≡ old.pending
  pub asked : new.asked ≡ old.asked
  pub longest : new.longest ≡ old.longest
  pub missed : new.missed ≡ old.missed
