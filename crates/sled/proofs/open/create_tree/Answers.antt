use Rattle.std.proofs.Common.{sym, ◌∙◌, ap, is_some}
use Rattle.sled_store.specs.Store.{now}
use Rattle.sled.proofs.Opening.{has_present, all_made, all_unmade, root_none}
use Rattle.sled.proofs.open.create_tree.Goals as goal

pub returns-then-is_some-clause-ok : goal.returns-then-is_some-clause-ok
returns-then-is_some-clause-ok g c = has_present _ _ c.requires.well c.requires.no_group (ap is_some (sym c.root.ensures) ∙ sym c.is_some.ensures ∙ c.if-is_some.true)

pub returns-clause-ok : goal.returns-clause-ok
returns-clause-ok g c =
    let none = root_none c.args.name.now (now (g.P.Pages.store c.args.pages.now)).roots _ _ c.root.ensures c.is_some.ensures c.if-is_some.false in
    all_made _ _ _ c.requires.well c.requires.no_group c.law_given.ensures none c.make_tree.result c.make_tree.ensures.ok

pub returns-clause-err : goal.returns-clause-err
returns-clause-err g c =
    let none = root_none c.args.name.now (now (g.P.Pages.store c.args.pages.now)).roots _ _ c.root.ensures c.is_some.ensures c.if-is_some.false in
    all_unmade _ _ _ c.requires.well c.requires.no_group c.law_given.ensures none c.make_tree.result c.make_tree.ensures.err
