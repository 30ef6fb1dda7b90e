use Rattle.std.proofs.Common.{ap, subst}
use Rattle.sled_store.specs.Crash.{Crashes}
use Rattle.sled_pages.specs.Memory.{store_of}
use Rattle.sled_pages.specs.declared.memory.MemPages.{MemPages}
use Rattle.sled.specs.Values.{DbValue}
use Rattle.example_transactions.proofs.Recovering.{recovers}
use Rattle.example_transactions.proofs.throughout.recover.Goals as goal

pub returns-in-Ok : goal.returns-in-Ok
returns-in-Ok g c = recovers store_of g.M.MergeOperator.meant c.args.keep (store_of c.args.db.pages) (store_of c.in_ok-left.left) c.args.name.now c.in-Ok.db c.with_operators-db.result
    (subst (λ (p : MemPages). Crashes c.args.keep (store_of p) (store_of c.in_ok-left.left)) c.into_pages.ensures.pages c.in_ok-left.ensures.ok) c.in-Ok.ensures.ok
    (ap (λ (d : DbValue MemPages _). d.pages) c.with_operators-db.ensures) c.audit.ensures.sound
