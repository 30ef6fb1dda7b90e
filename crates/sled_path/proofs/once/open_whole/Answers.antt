use Rattle.std.proofs.Common.{inl, inr, refl, rules}
use Rattle.sled_path.proofs.once.open_whole.Goals as goal

pub returns-in-Err-clause-err : goal.returns-in-Err-clause-err
returns-in-Err-clause-err c = c.of_host.ensures.why_once c.args.opening c.in-Err.ensures.err

pub returns-in-Ok-open_again-clause-whole : goal.returns-in-Ok-open_again-clause-whole
returns-in-Ok-open_again-clause-whole c =
    let e = c.in-Ok-true.ensures in
    record {
      was_locked = c.in-Ok.pair.is_locked;
      first_left = c.mend_both.new.first;
      second_left = c.mend_both.new.second;
      mended = record { first_found = c.in-Ok.pair.first; second_found = c.in-Ok.pair.second; pair = c.in-Ok.ensures.pair; first_mended = e.first; second_mended = e.second; first_only = e.first_durable; second_only = e.second_durable };
      again = inr c.in-Ok-open_again.ensures.pair;
    }

pub returns-in-Ok-false-clause-whole : goal.returns-in-Ok-false-clause-whole
returns-in-Ok-false-clause-whole c =
    let e = c.in-Ok-false.ensures in
    let same = e.same (search rules) in
    record {
      was_locked = c.in-Ok.pair.is_locked;
      first_left = c.mend_both.new.first;
      second_left = c.mend_both.new.second;
      mended = record { first_found = c.in-Ok.pair.first; second_found = c.in-Ok.pair.second; pair = c.in-Ok.ensures.pair; first_mended = e.first; second_mended = e.second; first_only = e.first_durable; second_only = e.second_durable };
      again = inl (refl, refl, refl, same.0, same.1);
    }

pub returns-in-Err-mend_both-clause-err : goal.returns-in-Err-mend_both-clause-err
returns-in-Err-mend_both-clause-err c = c.of_disk.ensures c.args.opening
