use Rattle.std.proofs.Common.{subst}
use Rattle.sled_store.specs.Store.{Store}
use Rattle.sled_pages.specs.Memory.{store_of, empty_store}
use Rattle.sled.specs.Opens.{Opens}
use Rattle.example_owned.proofs.Owning.{survives}
use Rattle.example_owned.proofs.owned.write_and_crash.Goals as goal

pub returns-in-Ok-open-clause-ok : goal.returns-in-Ok-open-clause-ok
returns-in-Ok-open-clause-ok c =
    survives _ _ _ _ _ _ c.args.name.now empty_store c.in-Ok.db _ c.in-Ok-default_tree.tree c.into_pages-2.result c.in_ok-left.left c.in-Ok-open.db c.into_pages-in-Ok-open.result c.args.keep _
    (subst (λ (s : Store). Opens store_of s c.args.name.now c.in-Ok.db) c.empty_pages.ensures.empty c.in-Ok.ensures.ok) c.audit_opening.ensures.begins c.audit_opening.ensures.maps c.law_record.ensures c.write-written.ensures
    c.into_pages-2.ensures.pages c.in_ok-left.ensures.ok c.in-Ok-open.ensures.ok c.into_pages-in-Ok-open.ensures.pages
