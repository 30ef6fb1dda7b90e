-- Of Scans, for proofs.
use Rattle.std.specs.Prelude.{List, [], ◌∷◌, Option, Some, None}
use Rattle.machine_shared.specs.declared.scans.Scanned.{Scanned}

-- what was done, if something was
abbrev pub did_of : Option Scanned → List Scanned
did_of None = []
did_of (Some did) = did ∷ []
