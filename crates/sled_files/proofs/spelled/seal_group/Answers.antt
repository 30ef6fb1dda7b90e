use Rattle.std.specs.Prelude.{refl}
use Rattle.sled_store.specs.State.{GroupEnds}
use Rattle.sled_bytes.specs.declared.change.Change.TheVariants.{Sealed}
use Rattle.sled_files.proofs.Calls.{spells_action, within_acted, within_idles, idles_refused}
use Rattle.sled_files.proofs.spelled.seal_group.Goals as goal

pub returns-in-Ok-clause-spelled : goal.returns-in-Ok-clause-spelled
returns-in-Ok-clause-spelled c = spells_action Sealed GroupEnds c.in_default.ensures.fits c.in_default.ensures.ok refl c.in-Ok.ensures.ok tt

pub returns-in-Ok-clause-within : goal.returns-in-Ok-clause-within
returns-in-Ok-clause-within c = λ limits w. within_acted w GroupEnds c.in-Ok.ensures.ok

pub returns-in-Err-seal_group-clause-within : goal.returns-in-Err-seal_group-clause-within
returns-in-Err-seal_group-clause-within c = λ limits w. within_idles w (idles_refused c.in-Err-seal_group.ensures.err)
