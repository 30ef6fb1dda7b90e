use Rattle.sled_pages.specs.theory.Laws.{law_given}
use Rattle.sled_bytes.specs.declared.change.Change.TheVariants.{Given}
use Rattle.sled_files.proofs.Calls.{spells_replaced, adds_given, changes_done, within_act, within_idles, idles_refused}
use Rattle.sled_files.proofs.Numbers.{version_next}
use Rattle.sled_files.proofs.spelled.replace.Goals as goal

pub returns-in-Ok-Ok-clause-spelled : goal.returns-in-Ok-Ok-clause-spelled
returns-in-Ok-Ok-clause-spelled c =
    let h = changes_done c.in-Ok-Ok.field-0-is c.in-Ok-Ok.ensures.ok in
    spells_replaced c.args.pid c.args.version c.args.next _ c.args.node (version_next c.args.next _ c.requires c.numbers_given.ensures.versions h.is.2) c.in_default.ensures.fits c.in_default.ensures.ok (law_given c.args.pages.now) h

pub returns-in-Ok-Ok-clause-within : goal.returns-in-Ok-Ok-clause-within
returns-in-Ok-Ok-clause-within c = λ limits w below.
    let h = changes_done c.in-Ok-Ok.field-0-is c.in-Ok-Ok.ensures.ok in
    within_act w c.args.next (version_next c.args.next _ c.requires c.numbers_given.ensures.versions h.is.2) below h.is.2

pub returns-in-Err-replace-clause-within : goal.returns-in-Err-replace-clause-within
returns-in-Err-replace-clause-within c = λ limits w below. within_idles w (idles_refused c.in-Err-replace.ensures.err)

pub returns-in-Ok-Ok-clause-adds : goal.returns-in-Ok-Ok-clause-adds
returns-in-Ok-Ok-clause-adds c =
    let h = changes_done c.in-Ok-Ok.field-0-is c.in-Ok-Ok.ensures.ok in
    adds_given _ _ (λ x. Given c.args.pid x c.args.node) (version_next c.args.next _ c.requires c.numbers_given.ensures.versions h.is.2) c.in_default.ensures.ok
