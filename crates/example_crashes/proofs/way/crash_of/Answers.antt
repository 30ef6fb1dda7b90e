use Rattle.std.proofs.Common.{◌∙◌, ap}
use Rattle.sled_pages.specs.Memory.{store_of}
use Rattle.sled_pages.specs.declared.memory.MemPages.{MemPages}
use Rattle.machine_alone.specs.Values.{MachineValue}
use Rattle.example_crashes.proofs.Finding.{survives_from}
use Rattle.example_crashes.proofs.way.crash_of.Goals as goal

pub returns-in-Ok-found_after-clause-survives : goal.returns-in-Ok-found_after-clause-survives
returns-in-Ok-found_after-clause-survives g c = λ by so.
    survives_from store_of c.args.state c.args.tree.now c.args.key.now by _ _ c.args.flushes c.into_db-db.result _ c.as_ref.result.now c.as_ref.ensures (c.into_db-db.ensures ∙ ap (λ (m : MachineValue MemPages _). m.db) c.into_machine.ensures.machine)
    c.into_machine.ensures.held.pages c.in-Ok.ensures.number c.in-Ok.ensures.leaves c.in-Ok-found_after.ensures.found so
