use Rattle.std.proofs.Common.{arith, subst}
use Rattle.sled_log.specs.declared.reading.LogError.{LogError}
use Rattle.sled_log.specs.Reading.{is_why}
use Rattle.sled_files.proofs.Finding.{why_log, why_decayed}
use Rattle.sled_files.proofs.found.read_file.Goals as goal

pub returns-in-Err-clause-err : goal.returns-in-Err-clause-err
returns-in-Err-clause-err c = why_log c.args.bytes.now (λ le. omega (arith, le, c.if-bytes-le1.false)) _ c.in-Err.e c.flaw_of.result c.in-Ok.ensures.read c.in-Err.ensures.err c.flaw_of.ensures

pub returns-in-Err-Decayed-clause-err : goal.returns-in-Err-Decayed-clause-err
returns-in-Err-Decayed-clause-err c =
    let decayed = subst (λ (e : LogError). is_why e c.args.bytes.now) c.in-Err-Decayed.field-0-is c.in-Err-Decayed.ensures.err in
    why_decayed c.args.bytes.now (λ le. omega (arith, le, c.if-bytes-le1.false)) c.in-Err-Decayed.at c.flaw_of-in-Err-Decayed.result decayed c.flaw_of-in-Err-Decayed.ensures
