use Rattle.std.proofs.Common.{◌≡◌, ap}
use Rattle.sled_nodes.proofs.Basics.{ok_weaker}
use Rattle.sled_model.specs.Maps.{Maps}
use Rattle.sled_pages.specs.Memory.{store_of}
use Rattle.example_crashes.specs.Crashing.{number_stored, number_under}
use Rattle.example_crashes.specs.theory.Raised.{LeavesNumber}
use Rattle.example_crashes.proofs.Finding.{leaves_number, ok_is}
use Rattle.example_crashes.proofs.crash.number_before.Goals as goal

pub returns-in-Ok-clause-number : goal.returns-in-Ok-clause-number
returns-in-Ok-clause-number g c =
    ok_is c.number_of.result (number_stored (store_of c.settle.new.db.pages) c.args.tree.now.name c.args.key.now) (number_stored (store_of c.args.db.now.pages) c.args.tree.now.name c.args.key.now)
    (ap (λ (m : Maps). number_under m c.args.tree.now.name c.args.key.now) c.in-Ok.ensures.keeps) c.number_of.ensures

pub returns-in-Ok-clause-leaves : goal.returns-in-Ok-clause-leaves
returns-in-Ok-clause-leaves g c =
    ok_weaker (λ n. n ≡ number_stored (store_of c.settle.new.db.pages) c.args.tree.now.name c.args.key.now) (λ n. LeavesNumber c.args.flushes (store_of c.args.db.now.pages) (store_of c.settle.new.db.pages) c.args.tree.now.name c.args.key.now n)
    (λ n is. leaves_number store_of c.args.flushes c.args.db.now c.settle.new.db c.args.tree.now.name c.args.key.now n c.in-Ok.ensures.same c.in-Ok.ensures.one is) c.number_of.result c.number_of.ensures
