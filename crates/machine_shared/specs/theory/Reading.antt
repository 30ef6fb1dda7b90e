-- Of Reads, for proofs. What is noted of a read of a machine.
use Rattle.std.specs.Prelude.{◌≡◌, ◌⊎◌, List, [], ◌∷◌}
use Rattle.sled_store.specs.Store.{Store}
use Rattle.sled_model.specs.Maps.{Merge}
use Rattle.sled_model.specs.declared.tree.Tree.{Tree}
use Rattle.machine_alone.specs.Values.{MachineValue}
use Rattle.machine_shared.specs.Made.{MadeValue, ReadMade}
use Rattle.machine_shared.specs.UnderLock.{ReadsNow}
use Rattle.machine_shared.specs.declared.read.Read.{Read}

-- nothing is noted, or a read of the database as it is
abbrev pub NotesRead : {P M : Type 0} → (P → Store) → (M → Merge) → MachineValue P M → List MadeValue → Type 0
NotesRead store meant m noted = (noted ≡ []) ⊎ ((trees : List Tree) × (read : Read) × (noted ≡ ReadMade read ∷ []) × ReadsNow store meant m trees read)
