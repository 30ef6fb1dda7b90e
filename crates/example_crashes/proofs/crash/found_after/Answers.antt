use Rattle.std.proofs.Common.{subst}
use Rattle.sled_pages.specs.Memory.{store_of}
use Rattle.sled_pages.specs.declared.memory.MemPages.{MemPages}
use Rattle.example_crashes.specs.Crashing.{number_stored}
use Rattle.example_crashes.specs.theory.Raised.{MayLeave}
use Rattle.example_crashes.proofs.Finding.{crash_leaves, ok_left}
use Rattle.example_crashes.proofs.crash.found_after.Goals as goal

pub returns-in-Ok-clause-found : goal.returns-in-Ok-clause-found
returns-in-Ok-clause-found g c =
    ok_left c.opened_after.result (number_stored (store_of c.in-Ok.left) c.args.tree.now c.args.key.now) (store_of c.args.db.pages) c.args.tree.now c.args.key.now
    (λ n is. subst (λ (p : MemPages). MayLeave (store_of p) c.args.tree.now c.args.key.now n) c.into_pages.ensures.pages (crash_leaves c.args.keep (store_of c.into_pages.result) (store_of c.in-Ok.left) c.args.tree.now c.args.key.now n c.in-Ok.ensures.ok is))
    c.opened_after.ensures.found
