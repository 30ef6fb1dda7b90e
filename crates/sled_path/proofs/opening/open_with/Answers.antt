use Rattle.sled_files.specs.Stored.{stored_as}
use Rattle.sled.proofs.Operating.{bare_opens}
use Rattle.sled_path.proofs.opening.open_with.Goals as goal

pub returns-in-Ok-open_checked-clause-ok : goal.returns-in-Ok-open_checked-clause-ok
returns-in-Ok-open_checked-clause-ok g c = let pages = c.in-Ok-open.pages in
    rw c.with_operators.ensures (record {
      over = record {
        files = pages.files;
        store = stored_as pages;
        is = record { first = c.in-Ok.pair.first; second = c.in-Ok.pair.second; are = c.in-Ok.ensures.pair; opens = c.in-Ok-open.ensures.opens };
        fit = c.in-Ok-open_checked.ensures.fit;
        opens = bare_opens stored_as (stored_as pages) c.args.name.now c.in-Ok-open_checked.db c.in-Ok-open_checked.ensures.ok;
      };
      meanwhile = c.in-Ok-open.ensures.any_moment;
    })

pub returns-in-Err-clause-err : goal.returns-in-Err-clause-err
returns-in-Err-clause-err g c = c.of_host.ensures.why c.args.opening c.in-Err.ensures.err

pub returns-in-Err-open-clause-err : goal.returns-in-Err-open-clause-err
returns-in-Err-open-clause-err g c = c.of_files-why.ensures.why c.args.opening c.in-Ok.pair.is_locked c.in-Ok.pair.first c.in-Ok.pair.second c.in-Ok.ensures.pair c.in-Err-open.ensures.err

pub returns-in-Err-open_checked-clause-err : goal.returns-in-Err-open_checked-clause-err
returns-in-Err-open_checked-clause-err g c = let pages = c.in-Ok-open.pages in
    c.of_database.ensures.why c.args.opening c.in-Ok.pair.is_locked pages.files (stored_as pages) (stored_as c.in-Err-open_checked.pages)
    (record { first = c.in-Ok.pair.first; second = c.in-Ok.pair.second; are = c.in-Ok.ensures.pair; opens = c.in-Ok-open.ensures.opens })
    c.in-Err-open_checked.ensures.err
