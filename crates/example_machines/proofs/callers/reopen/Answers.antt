use Rattle.std.proofs.Common.{ap, ◌∙◌}
use Rattle.sled_store.specs.Store.{now}
use Rattle.tree_laws.specs.Contents.{trees_of}
use Rattle.sled.specs.Values.{DbValue}
use Rattle.example_machines.proofs.Opened.{opened_maps, refused_again}
use Rattle.example_machines.proofs.callers.reopen.Goals as goal

pub returns-in-Ok-clause-same : goal.returns-in-Ok-clause-same
returns-in-Ok-clause-same g c =
    let store = g.P.Pages.store in
    ap (λ p. trees_of (now (store p))) c.into_pages.ensures.pages
    ∙ (opened_maps store _ _ _ _ (ap store c.into_pages-pages.ensures.pages) c.into_pages-pages.ensures.sound c.in-Ok.ensures.ok
    ∙ ap (λ (v : DbValue g.row.P.Denot g.row.M.Denot). trees_of (now (store v.pages))) c.into_db.ensures)

pub returns-in-Err-clause-kept : goal.returns-in-Err-clause-kept
returns-in-Err-clause-kept g c =
    let store = g.P.Pages.store in
    refused_again store _ _ _ _ (ap store c.into_pages-pages.ensures.pages) c.into_pages-pages.ensures.sound c.in-Err.ensures.err
    ∙ ap (λ (v : DbValue g.row.P.Denot g.row.M.Denot). trees_of (now (store v.pages))) c.into_db.ensures
