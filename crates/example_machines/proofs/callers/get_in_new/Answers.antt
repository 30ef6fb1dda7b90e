use Rattle.std.proofs.Common.{sym, ap, subst}
use Rattle.sled_pages.specs.Memory.{store_of}
use Rattle.sled_store.specs.Store.{Store, now}
use Rattle.sled_pages.specs.declared.memory.MemPages.{MemPages}
use Rattle.sled_model.specs.State.{default_name}
use Rattle.tree_laws.specs.Contents.{trees_of}
use Rattle.sled.specs.Opens.{IsOnePage}
use Rattle.sled.specs.Values.{DbValue}
use Rattle.example_machines.proofs.Calls.{with_turns}
use Rattle.example_machines.proofs.callers.get_in_new.Goals as goal

pub returns : goal.returns
returns c =
    with_turns _ (subst (λ (d : DbValue MemPages _). IsOnePage (now (store_of d.pages)) default_name) (sym c.new-machine.ensures.db)
    (c.in-Ok.ensures.ok.fresh (ap (λ (s : Store). trees_of (now s) default_name) c.empty_pages.ensures.empty))) c.get_in_default-got.ensures.prompt
