use Rattle.std.proofs.Common.{arith, sym, ◌∙◌}
use Rattle.sled_files.specs.Lasting.{Limits}
use Rattle.sled_files.proofs.Limits.{near_kept, near_raised}
use Rattle.sled_files.proofs.file_pages.ahead.Goals as goal

pub returns-then-are_far-clause-near : goal.returns-then-are_far-clause-near
returns-then-are_far-clause-near c = λ busy.
    let limits : Limits = record { pids = c.args.pids; versions = c.args.versions } in
    near_kept c.numbers_given-greatest.result.0 c.numbers_given-greatest.result.1 c.saturating_add-pid.result limits c.numbers_given-greatest.ensures.pids c.numbers_given-greatest.ensures.versions c.ranges.pids.fits (omega (arith, c.saturating_add-pid.ensures, c.greatest.view_is)) (sym c.are_far.ensures ∙ c.if-are_far.true)

pub returns-clause-near : goal.returns-clause-near
returns-clause-near c = λ busy.
    let limits : Limits = record { pids = c.args.pids; versions = c.args.versions } in
    near_raised c.numbers_given-greatest.result.0 c.numbers_given-greatest.result.1 c.saturating_add-pid.result limits c.numbers_given-greatest.ensures.pids c.numbers_given-greatest.ensures.versions c.ranges.pids.fits (omega (arith, c.saturating_add-pid.ensures, c.greatest.view_is)) (record { pids = c.raised.result; versions = c.raised-2.result }) (sym c.are_far.ensures ∙ c.if-are_far.false) c.raised.ensures.is c.raised-2.ensures.is
