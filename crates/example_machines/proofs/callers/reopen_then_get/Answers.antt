use Rattle.std.proofs.Common.{◌≡◌, ap, ◌∙◌, subst}
use Rattle.sled.specs.Sound.{IsDb}
use Rattle.sled.specs.Values.{DbValue}
use Rattle.example_machines.proofs.Opened.{opened_again, read_again}
use Rattle.example_machines.proofs.callers.reopen_then_get.Goals as goal

pub returns : goal.returns
returns g c =
    let store = g.P.Pages.store in
    let d = c.into_db.ensures in
    let sound : IsDb store c.args.machine.db = subst (λ (v : DbValue g.row.P.Denot g.row.M.Denot). IsDb store v) d c.into_pages-pages.ensures.sound in
    let pages : store c.into_pages-pages.result ≡ store c.args.machine.db.pages = ap store (c.into_pages-pages.ensures.pages ∙ ap (λ (v : DbValue g.row.P.Denot g.row.M.Denot). v.pages) d) in
    let same = opened_again store c.args.machine.db (store c.into_pages-pages.result) c.args.name.now c.in-Ok.db pages sound c.in-Ok.ensures.ok in
    read_again store g.M.MergeOperator.meant _ c.args.machine.db c.in-Ok.db _ _ _ same c.new-machine.ensures.db c.get_in_default-got.ensures.reads
