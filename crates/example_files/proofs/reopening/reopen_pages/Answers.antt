use Rattle.sled_nodes.proofs.Basics.{ok_weaker, err_weaker}
use Rattle.sled_files.specs.Stored.{asked_of, stored_as}
use Rattle.example_files.proofs.reopening.reopen_pages.Goals as goal

pub returns-clause-ok : goal.returns-clause-ok
returns-clause-ok g c =
    let pages = c.args.pages.now in
    let lasting = c.law_lasts.ensures.lasts.each (g.E.Disk.seen c.args.first) (g.E.Disk.seen c.args.second) c.requires.first c.requires.second in
    ok_weaker _ _ (λ found each. c.law_opened_goes_on.ensures (asked_of pages.asked) pages.limits (stored_as pages) (stored_as found) (g.E.Disk.seen c.args.first) (g.E.Disk.seen c.args.second) lasting (λ d are. (each d are).1)) c.open.result c.open.ensures.recovers

pub returns-clause-err : goal.returns-clause-err
returns-clause-err g c =
    let pages = c.args.pages.now in
    let lasting = c.law_lasts.ensures.lasts.each (g.E.Disk.seen c.args.first) (g.E.Disk.seen c.args.second) c.requires.first c.requires.second in
    err_weaker _ _ (λ x why. c.law_opens_again.ensures (asked_of pages.asked) pages.limits (stored_as pages) (g.E.Disk.seen c.args.first) (g.E.Disk.seen c.args.second) lasting x.error why) c.open.result c.open.ensures.err
