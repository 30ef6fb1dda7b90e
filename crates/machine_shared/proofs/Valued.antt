-- A value that was read at a key, as what was read of a machine.
use Rattle.std.proofs.Common.{◌≡◌, [], ◌∷◌, Option, ap}
use Rattle.std.specs.FinMap.Entries.{find}
use Rattle.sled_nodes.specs.Order.{Key, key_cmp}
use Rattle.sled_store.specs.Store.{Store}
use Rattle.sled_model.specs.Maps.{Merge}
use Rattle.sled_model.specs.declared.tree.Tree.{Tree}
use Rattle.sled.specs.Reads.{ReadsMap}
use Rattle.machine_alone.specs.Values.{MachineValue}
use Rattle.machine_shared.specs.declared.read.Answer.TheVariants.{Value}
use Rattle.machine_shared.specs.declared.read.Question.TheVariants.{Get}
use Rattle.machine_shared.specs.declared.read.Read.TheVariants as read
use Rattle.machine_shared.specs.UnderLock.{ReadsNow}
use Rattle.machine_shared.proofs.ReadMakes.{answered}

pub valued : {P M : Type 0} (store : P → Store) (meant : M → Merge) (m : MachineValue P M) (tree : Tree) (key : Key) (value : Option Key) → ReadsMap store meant m.db tree (λ map. value ≡ find key_cmp key map)
    → ReadsNow store meant m (tree ∷ []) (read.Tree tree (Get key) (Value value))
valued store meant m tree key value r = answered store meant m tree (Get key) (Value value) (record { tested = r.tested; named = r.named; there = r.there; is = ap Value r.is })
