use Rattle.sled_store.specs.Store.{now}
use Rattle.sled_pages.specs.Memory.{store_of}
use Rattle.sled_files.proofs.Snapping.{makes_durable}
use Rattle.sled_files.proofs.Sizing.{sized}
use Rattle.sled_files.proofs.snapshot.snapshot.Goals as goal

pub returns-in-Ok-spell-clause-ok : goal.returns-in-Ok-spell-clause-ok
returns-in-Ok-spell-clause-ok c =
    makes_durable (store_of c.args.pages.now) c.args.mark c.args.pids c.args.versions (c.in_default.ensures.ok c.in-Ok.ensures.ok) c.in_default-spell.ensures.fits c.in_default-spell.ensures.ok c.in-Ok-spell.ensures.fits c.in-Ok-spell.ensures.ok

pub returns-in-Ok-spell-clause-long : goal.returns-in-Ok-spell-clause-long
returns-in-Ok-spell-clause-long c =
    sized _ _ (now (store_of c.args.pages.now)) c.args.mark c.args.pids c.args.versions c.in-Ok.ensures.long c.in_default.ensures.long c.in_default-spell.ensures.ok c.in-Ok-spell.ensures.ok
