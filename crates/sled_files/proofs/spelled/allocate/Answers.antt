use Rattle.sled_files.proofs.Calls.{spells_new, adds_new, within_new, within_idles, idles_refused}
use Rattle.sled_files.proofs.Numbers.{numbers_next}
use Rattle.sled_files.proofs.spelled.allocate.Goals as goal

pub returns-in-Ok-clause-spelled : goal.returns-in-Ok-clause-spelled
returns-in-Ok-clause-spelled c =
    let same = numbers_next c.numbers_given.result.0 c.numbers_given.result.1 c.requires c.numbers_given.ensures.pids c.numbers_given.ensures.versions c.in-Ok.ensures.ok in
    spells_new c.args.node c.args.pid c.args.version _ _ same c.in_default.ensures.fits c.in_default.ensures.ok c.in-Ok.ensures.ok

pub returns-in-Ok-clause-within : goal.returns-in-Ok-clause-within
returns-in-Ok-clause-within c = λ limits w below further.
    let same = numbers_next c.numbers_given.result.0 c.numbers_given.result.1 c.requires c.numbers_given.ensures.pids c.numbers_given.ensures.versions c.in-Ok.ensures.ok in
    within_new w c.args.pid c.args.version same below further c.in-Ok.ensures.ok

pub returns-in-Err-allocate-clause-within : goal.returns-in-Err-allocate-clause-within
returns-in-Err-allocate-clause-within c = λ limits w below further. within_idles w (idles_refused c.in-Err-allocate.ensures.err)

pub returns-in-Ok-clause-adds : goal.returns-in-Ok-clause-adds
returns-in-Ok-clause-adds c =
    let same = numbers_next c.numbers_given.result.0 c.numbers_given.result.1 c.requires c.numbers_given.ensures.pids c.numbers_given.ensures.versions c.in-Ok.ensures.ok in
    adds_new _ _ c.args.node c.args.pid c.args.version _ _ same c.in_default.ensures.ok
