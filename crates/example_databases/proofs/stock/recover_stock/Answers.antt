use Rattle.std.proofs.Common.{subst}
use Rattle.sled_nodes.proofs.Basics.{ok_weaker}
use Rattle.sled_store.specs.Crash.{Crashes}
use Rattle.sled_pages.specs.Memory.{store_of}
use Rattle.sled_pages.specs.declared.memory.MemPages.{MemPages}
use Rattle.example_databases.proofs.Stocking.{left_agrees}
use Rattle.example_databases.proofs.stock.recover_stock.Goals as goal

pub returns-clause-agrees : goal.returns-clause-agrees
returns-clause-agrees g c = ok_weaker _ _ (λ db is table index agrees. is table index agrees.apart (left_agrees c.args.keep (store_of c.args.db.pages) (store_of c.in_ok-left.left) table index
    (subst (λ (p : MemPages). Crashes c.args.keep (store_of p) (store_of c.in_ok-left.left)) c.into_pages.ensures.pages c.in_ok-left.ensures.ok) agrees)) c.open_stock.result c.open_stock.ensures.agrees
