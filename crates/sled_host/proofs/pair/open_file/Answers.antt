use Rattle.std.proofs.Common.{refl}
use Rattle.std.proofs.lemmas.Result.{err_from_is_err_and}
use Rattle.sled_host.proofs.pair.open_file.Goals as goal

pub returns-in_err-is_locked-clause-err : goal.returns-in_err-is_locked-clause-err
returns-in_err-is_locked-clause-err c =
    let is = err_from_is_err_and c.from_residual-in_err-is_locked.result c.from_residual-in_err-is_locked.ensures.1 in
    rw (is.1, is.2) (c.in_err-is_locked.ensures.err c.args.opening refl)
