use Rattle.sled_files.specs.Stored.{stored_as}
use Rattle.sled.proofs.Operating.{bare_opens}
use Rattle.sled_path.proofs.once.open_once.Goals as goal

pub returns-in-Ok-open_checked-clause-ok : goal.returns-in-Ok-open_checked-clause-ok
returns-in-Ok-open_checked-clause-ok g c = let pages = c.in-Ok-open_mended.pages in
    rw c.with_operators.ensures (record {
      files = pages.files;
      store = stored_as pages;
      is = record { first = c.in-Ok.pair.first; second = c.in-Ok.pair.second; are = c.in-Ok.ensures.whole; opens = c.in-Ok-open_mended.ensures.opens };
      fit = c.in-Ok-open_checked.ensures.fit;
      opens = bare_opens stored_as (stored_as pages) c.args.name.now c.in-Ok-open_checked.db c.in-Ok-open_checked.ensures.ok;
    })

pub returns-in-Err-open_checked-clause-err : goal.returns-in-Err-open_checked-clause-err
returns-in-Err-open_checked-clause-err g c = let pages = c.in-Ok-open_mended.pages in
    c.of_database.ensures.why_once c.args.opening c.in-Ok.pair.is_locked pages.files (stored_as pages) (stored_as c.in-Err-open_checked.pages)
    (record { first = c.in-Ok.pair.first; second = c.in-Ok.pair.second; are = c.in-Ok.ensures.whole; opens = c.in-Ok-open_mended.ensures.opens })
    c.in-Err-open_checked.ensures.err
