use Rattle.std.proofs.Common.{ap}
use Rattle.sled_nodes.proofs.Basics.{ok_weaker}
use Rattle.sled_store.specs.Store.{Store, now}
use Rattle.sled_pages.specs.Memory.{store_of}
use Rattle.tree_laws.specs.Contents.{trees_of}
use Rattle.example_databases.proofs.Stocking.{none_agree}
use Rattle.example_databases.proofs.stock.new_stock.Goals as goal

pub returns : goal.returns
returns g c = ok_weaker _ _ (λ db is table index apart. is table index apart (none_agree (trees_of (now (store_of c.empty_pages.result))) table index (λ name. ap (λ (s : Store). trees_of (now s) name) c.empty_pages.ensures.empty))) c.open_stock.result c.open_stock.ensures.agrees
