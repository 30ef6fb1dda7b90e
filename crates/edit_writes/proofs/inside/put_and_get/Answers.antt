use Rattle.std.proofs.Common.{◌≡◌, Option, Some, Result, Ok, Err, IfOk, sym, ap, subst, ◌∙◌}
use Rattle.std.specs.FinMap.Entries.{find, put}
use Rattle.sled_nodes.proofs.Put.{found_here}
use Rattle.sled_nodes.specs.Order.{Key, key_cmp}
use Rattle.sled_store.specs.Store.{Store}
use Rattle.tree_transactions.specs.Trees.{Shows, Records}
use Rattle.tree_transactions.specs.declared.tree.TransactionalTree.{TransactionalTree}
use Rattle.edit_writes.proofs.inside.put_and_get.Goals as goal

-- and shown
shown_here : {P E : Type 0} (store : P → Store) (old new : TransactionalTree P) (k v : Key) (read : Result (Option Key) E) → Records old k (Some v) new → IfOk read (Shows store new k) → IfOk read (λ found. found ≡ Some v)
shown_here store old new k v (Ok found) put shows = shows.is.own (Some v) (ap (λ t. find key_cmp k t.overlay) put.is ∙ found_here k (Some v) old.overlay)
shown_here store old new k v (Err e) put shows = shows

pub returns : goal.returns
returns g c = subst (λ r. IfOk r (λ found. found ≡ Some c.args.value.now)) (sym c.now.ensures) (shown_here g.P.Pages.store c.args.tree.now c.insert.new.self c.args.key.now c.args.value.now c.get-read.result c.in_ok-before.ensures.put c.get-read.ensures.ok)
