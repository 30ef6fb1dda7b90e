use Rattle.std.proofs.Common.{◌≡◌, sym, subst}
use Rattle.sled_store.specs.Store.{now}
use Rattle.sled_pages.specs.Memory.{store_of}
use Rattle.sled_pages.specs.declared.memory.MemPages.{MemPages}
use Rattle.tree_laws.specs.Contents.{trees_of}
use Rattle.sled.specs.Opens.{with_default}
use Rattle.sled.specs.Values.{DbValue}
use Rattle.example_databases.specs.Stock.{Agrees}
use Rattle.example_databases.proofs.Stocking.{opened_agrees}
use Rattle.example_databases.proofs.stock.open_stock.Goals as goal

pub returns-in-Ok-clause-agrees : goal.returns-in-Ok-clause-agrees
returns-in-Ok-clause-agrees g c = λ table index apart agree.
    subst (λ (d : DbValue MemPages _). Agrees (store_of d.pages) table index) (sym c.with_operators.ensures) (opened_agrees store_of (store_of c.args.pages) c.args.name.now c.in-Ok.db c.in-Ok.ensures.ok table index apart agree)

pub returns-in-Ok-clause-maps : goal.returns-in-Ok-clause-maps
returns-in-Ok-clause-maps g c =
    subst (λ (d : DbValue MemPages _). trees_of (now (store_of d.pages)) ≡ with_default (trees_of (now (store_of c.args.pages)))) (sym c.with_operators.ensures) c.in-Ok.ensures.ok.maps
