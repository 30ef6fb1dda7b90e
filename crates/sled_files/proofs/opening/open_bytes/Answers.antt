use Rattle.sled_files.proofs.Choosing.{no_first, no_second, no_flaw_of}
use Rattle.sled_files.proofs.opening.open_bytes.Goals as goal

pub returns-in-Err-clause-err : goal.returns-in-Err-clause-err
returns-in-Err-clause-err c = no_first c.in-Err.e c.args.first.now c.args.second.now c.in-Err.ensures.err

pub returns-in-Err-read_file-clause-err : goal.returns-in-Err-read_file-clause-err
returns-in-Err-read_file-clause-err c = no_second c.in-Err-read_file.e c.args.first.now c.args.second.now (no_flaw_of c.args.first.now c.in-Ok.one c.in-Ok.ensures.ok) c.in-Err-read_file.ensures.err
