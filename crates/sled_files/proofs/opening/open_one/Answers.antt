use Rattle.std.proofs.Common.{refl}
use Rattle.sled_files.proofs.Choosing.{opened_as, unmade_as}
use Rattle.sled_files.proofs.opening.open_one.Goals as goal

pub returns-in-Ok-clause-ok : goal.returns-in-Ok-clause-ok
returns-in-Ok-clause-ok c first second file behind = opened_as c.args.is_second first second _ refl file behind c.in-Ok.ensures.ok

pub returns-in-Err-clause-err : goal.returns-in-Err-clause-err
returns-in-Err-clause-err c first second file behind = unmade_as c.args.is_second first second c.in-Err.e file behind c.in-Err.ensures.err
