use Rattle.std.proofs.Common.{false, refl}
use Rattle.sled_path.proofs.Again.{unpaired_alike}
use Rattle.sled_path.proofs.once.open_again.Goals as goal

pub returns-in-Err-clause-err : goal.returns-in-Err-clause-err
returns-in-Err-clause-err c =
    c.of_host.ensures.why_once c.args.opening (unpaired_alike (record { creates = false; needs_lock = c.args.opening.needs_lock }) c.args.opening refl c.in-Err.e c.in-Err.ensures.err)
