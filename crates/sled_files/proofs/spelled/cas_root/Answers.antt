use Rattle.std.specs.Prelude.{refl}
use Rattle.sled_store.specs.State.{RootBecomes}
use Rattle.sled_bytes.specs.declared.change.Change.TheVariants.{Rooted}
use Rattle.sled_files.proofs.Calls.{spells_action, swaps_done, within_acted, within_idles, idles_refused}
use Rattle.sled_files.proofs.spelled.cas_root.Goals as goal

pub returns-in-Ok-Ok-clause-spelled : goal.returns-in-Ok-Ok-clause-spelled
returns-in-Ok-Ok-clause-spelled c = spells_action (Rooted c.args.name.now c.args.new) (RootBecomes c.args.name.now c.args.new) c.in_default.ensures.fits c.in_default.ensures.ok refl (swaps_done c.in-Ok-Ok.field-0-is c.in-Ok-Ok.ensures.ok) tt

pub returns-in-Ok-Ok-clause-within : goal.returns-in-Ok-Ok-clause-within
returns-in-Ok-Ok-clause-within c = λ limits w. within_acted w (RootBecomes c.args.name.now c.args.new) (swaps_done c.in-Ok-Ok.field-0-is c.in-Ok-Ok.ensures.ok)

pub returns-in-Err-cas_root-clause-within : goal.returns-in-Err-cas_root-clause-within
returns-in-Err-cas_root-clause-within c = λ limits w. within_idles w (idles_refused c.in-Err-cas_root.ensures.err)
