use Rattle.std.specs.Prelude.{None, refl}
use Rattle.sled_store.specs.State.{PageBecomes}
use Rattle.sled_bytes.specs.declared.change.Change.TheVariants.{Freed}
use Rattle.sled_files.proofs.Calls.{spells_action, frees_done, within_acted, within_idles, idles_refused}
use Rattle.sled_files.proofs.spelled.free.Goals as goal

pub returns-in-Ok-Ok-clause-spelled : goal.returns-in-Ok-Ok-clause-spelled
returns-in-Ok-Ok-clause-spelled c = spells_action (Freed c.args.pid) (PageBecomes c.args.pid None) c.in_default.ensures.fits c.in_default.ensures.ok refl (frees_done c.in-Ok-Ok.field-0-is c.in-Ok-Ok.ensures.ok) tt

pub returns-in-Ok-Ok-clause-within : goal.returns-in-Ok-Ok-clause-within
returns-in-Ok-Ok-clause-within c = λ limits w. within_acted w (PageBecomes c.args.pid None) (frees_done c.in-Ok-Ok.field-0-is c.in-Ok-Ok.ensures.ok)

pub returns-in-Err-free-clause-within : goal.returns-in-Err-free-clause-within
returns-in-Err-free-clause-within c = λ limits w. within_idles w (idles_refused c.in-Err-free.ensures.err)
