use Rattle.std.proofs.Common.{sym, ◌∙◌, length}
use Rattle.sled_store.specs.Store.{now}
use Rattle.sled_pages.specs.Memory.{store_of}
use Rattle.sled_pages.specs.theory.Laws.{law_given}
use Rattle.sled_files.proofs.Snapping.{spells_page, sizes_page, sizes_no_page}
use Rattle.sled_files.proofs.snapshot.spell_page.Goals as goal

pub returns-in-Ok-Some-clause-ok : goal.returns-in-Ok-Some-clause-ok
returns-in-Ok-Some-clause-ok c =
    spells_page (store_of c.args.pages.now) _ _ c.args.pid c.in-Ok-Some.view c.deref.result.now c.encode_given-spelled.result (law_given c.args.pages.now) (sym c.in-Ok-Some.field-0-is ∙ c.in-Ok-Some.ensures.ok) c.deref.ensures c.encode_given-spelled.ensures.ok c.encode_given-spelled.ensures.fits

pub returns-in-Ok-Some-clause-long : goal.returns-in-Ok-Some-clause-long
returns-in-Ok-Some-clause-long c =
    sizes_page (store_of c.args.pages.now) _ _ c.args.pid c.in-Ok-Some.view c.deref.result.now c.encode_given-spelled.result (sym c.in-Ok-Some.field-0-is ∙ c.in-Ok-Some.ensures.ok) c.deref.ensures c.encode_given-spelled.ensures.ok

pub returns-in-Ok-None-clause-long : goal.returns-in-Ok-None-clause-long
returns-in-Ok-None-clause-long c = sizes_no_page c.args.pid ((now (store_of c.args.pages.now)).pages c.args.pid) (length c.args.out.now.items) (sym c.in-Ok-None.field-0-is ∙ c.in-Ok-None.ensures.ok)
