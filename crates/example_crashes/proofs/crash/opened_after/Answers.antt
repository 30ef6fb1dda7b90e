use Rattle.std.proofs.Common.{◌∙◌, ap}
use Rattle.sled_pages.specs.Memory.{store_of}
use Rattle.sled_pages.specs.declared.memory.MemPages.{MemPages}
use Rattle.sled.specs.Values.{DbValue}
use Rattle.example_crashes.specs.Crashing.{number_stored}
use Rattle.example_crashes.proofs.Finding.{ok_first, opened_number}
use Rattle.example_crashes.proofs.crash.opened_after.Goals as goal

pub returns-in-Ok-clause-found : goal.returns-in-Ok-clause-found
returns-in-Ok-clause-found g c =
    ok_first c.found_in.result (number_stored (store_of c.with_operators.result.pages) c.args.tree.now c.args.key.now) (number_stored (store_of c.args.left) c.args.tree.now c.args.key.now)
    (ap (λ (d : DbValue MemPages _). number_stored (store_of d.pages) c.args.tree.now c.args.key.now) c.with_operators.ensures ∙ opened_number store_of (store_of c.args.left) c.args.name.now c.args.tree.now c.args.key.now c.in-Ok.again c.in-Ok.ensures.ok) c.found_in.ensures.found
